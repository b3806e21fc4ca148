-- The examples of the table of numbers (document 01), and those of a chain (change request 2026-04), worked by the definitions:
-- each side computes. Assumes nothing.
use Rattle.std.specs.Prelude.{ℕ, zero, suc, ◌+◌, ◌-◌, ◌*◌, ◌/◌, ◌%◌, ◌≡◌, refl, List, [], ◌∷◌, ◌++◌, replicate}
use Rattle.std.specs.Float.Ieee.{le, lt, eq, neg, of_bits}
use Rattle.geom.specs.Plane.{float_ok}
use Rattle.sheet.specs.Bytes.{all_at}
use Rattle.sheet.specs.Kinds.{layout_at, length_ok, points_ok, paint_bytes_ok, bytes_ok, paint_floats_ok, floats_ok, saved_ok}
use Rattle.sheet.specs.Kinds.{item_number}
use Rattle.sheet.specs.Check.{header_ok, pairs_from, pairs_ok, head_number, number_at, depth_at, verdict, items_from, sheet_check}

-- a number as two bytes; 1 and 8,193 as floats
abbrev u16 : ℕ → List ℕ
u16 n = n % 256 ∷ n / 256 ∷ []

abbrev one : List ℕ
one = 0 ∷ 0 ∷ 128 ∷ 63 ∷ []

abbrev large : List ℕ
large = 0 ∷ 4 ∷ 0 ∷ 70 ∷ []

-- a header of width w, 1 high and black, with n items; n pairs of items of one length, from an offset on
abbrev header : ℕ → ℕ → List ℕ
header w n = u16 w ++ u16 1 ++ replicate 4 0 ++ u16 n ++ u16 0

unfoldable pub pairs : ℕ → ℕ → ℕ → List ℕ
pairs zero len at = []
pairs (suc n) len at = u16 at ++ u16 len ++ pairs n len (at + len)

-- n times one item, of a length, and the sheet of them
unfoldable pub times : ℕ → List ℕ → List ℕ
times zero item = []
times (suc n) item = item ++ times n item

abbrev sheet : ℕ → ℕ → List ℕ → List ℕ
sheet n len item = header 4 n ++ pairs n len (12 + 4 * n) ++ times n item

-- a solid fill at (x, 0), 1 wide and high, red, with r 0, whose byte 3 is given; a push; a polygon of n points
abbrev fill : ℕ → List ℕ → List ℕ
fill byte x = 3 ∷ 0 ∷ 0 ∷ byte ∷ x ++ replicate 4 0 ++ one ++ one ++ replicate 8 0 ++ 255 ∷ 0 ∷ 0 ∷ 255 ∷ replicate 20 0

abbrev push : List ℕ
push = 1 ∷ replicate 19 0

abbrev polygon : ℕ → List ℕ
polygon n = 6 ∷ 0 ∷ n ∷ 0 ∷ replicate 28 0 ++ replicate (8 * n) 0

-- accepted; 11 bytes; w = 0; first offset 17 with n = 1; kind 9; byte 3 = 1; x = 8,193; 17th push; 65 points
pub numbers :
    (sheet_check (sheet 1 52 (fill 0 one)) ≡ verdict 0 0)
    × (sheet_check (replicate 11 0) ≡ verdict 1 0)
    × (sheet_check (header 0 0) ≡ verdict 2 0)
    × (sheet_check (header 4 1 ++ pairs 1 52 17 ++ fill 0 one) ≡ verdict 3 0)
    × (sheet_check (sheet 1 4 (9 ∷ 0 ∷ 0 ∷ 0 ∷ [])) ≡ verdict 4 1)
    × (sheet_check (sheet 2 52 (fill 1 one)) ≡ verdict 5 1)
    × (sheet_check (sheet 1 52 (fill 0 large)) ≡ verdict 6 1)
    × (sheet_check (sheet 17 20 push) ≡ verdict 7 17)
    × (sheet_check (sheet 1 552 (polygon 65)) ≡ verdict 13 1)
unfolding pairs times le lt eq neg of_bits float_ok all_at layout_at length_ok points_ok paint_bytes_ok bytes_ok paint_floats_ok floats_ok
    saved_ok item_number header_ok pairs_from pairs_ok head_number number_at depth_at items_from sheet_check
numbers = (refl, refl, refl, refl, refl, refl, refl, refl, refl)

-- a chain of n points, whose byte 1, width and first coordinate are given; the others are 0
abbrev chain : ℕ → ℕ → List ℕ → List ℕ → List ℕ
chain byte n width x = 8 ∷ byte ∷ n ∷ 0 ∷ width ++ replicate 4 0 ++ x ++ replicate (8 * n - 4) 0

-- of no point, of 2 and of 64: accepted; cut to 4 bytes, and 8 bytes longer than its m says: 4; 65 points: 13; byte 1 = 1: 5;
-- width = 8,193 and x = 8,193: 6; and the kind after it: 4
pub chains :
    (sheet_check (sheet 1 12 (chain 0 0 one [])) ≡ verdict 0 0)
    × (sheet_check (sheet 1 28 (chain 0 2 one one)) ≡ verdict 0 0)
    × (sheet_check (sheet 1 524 (chain 0 64 one one)) ≡ verdict 0 0)
    × (sheet_check (sheet 1 4 (8 ∷ 0 ∷ 0 ∷ 0 ∷ [])) ≡ verdict 4 1)
    × (sheet_check (sheet 1 36 (chain 0 2 one one ++ one ++ one)) ≡ verdict 4 1)
    × (sheet_check (sheet 1 532 (chain 0 65 one one)) ≡ verdict 13 1)
    × (sheet_check (sheet 1 28 (chain 1 2 one one)) ≡ verdict 5 1)
    × (sheet_check (sheet 1 28 (chain 0 2 large one)) ≡ verdict 6 1)
    × (sheet_check (sheet 1 28 (chain 0 2 one large)) ≡ verdict 6 1)
    × (sheet_check (sheet 1 12 (9 ∷ replicate 11 0)) ≡ verdict 4 1)
unfolding pairs times le lt eq neg of_bits float_ok all_at layout_at length_ok points_ok paint_bytes_ok bytes_ok paint_floats_ok floats_ok
    saved_ok item_number header_ok pairs_from pairs_ok head_number number_at depth_at items_from sheet_check
chains = (refl, refl, refl, refl, refl, refl, refl, refl, refl, refl)
