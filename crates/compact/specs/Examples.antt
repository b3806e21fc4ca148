-- Compacted sheets of 4 × 2 (change request 2026-11), worked by the definitions: each side computes. Assumes nothing.
use Rattle.std.specs.Prelude.{ℕ, ◌≡◌, refl, List, [], ◌∷◌, ◌++◌, replicate}
use Rattle.std.specs.Float.Ieee.{of_bits, round, add, sub, mul, lt, le, eq, ne, neg, of_int, to_signed, to_unsigned}
use Rattle.mathf.specs.Whole.{floor_of, ceil_of}
use Rattle.geom.specs.Int.{max_z, min_z}
use Rattle.geom.specs.Box.{meet, empty, no_box}
use Rattle.geom.specs.Plane.{float_ok, no_area, outer_of}
use Rattle.fill.specs.Fill.{fill_reach}
use Rattle.sheet.specs.Bytes.{all_at}
use Rattle.sheet.specs.Kinds.{layout_at, length_ok, points_ok, paint_bytes_ok, bytes_ok, paint_floats_ok, floats_ok, saved_ok, item_number}
use Rattle.sheet.specs.Check as checks
use Rattle.sheet.specs.Check.{header_ok, pairs_from, pairs_ok, head_number, number_at, depth_at, sheet_check}
use Rattle.encode.specs.Encode.{pairs, joined, encoded}
use Rattle.items.specs.Items.{read_paint, read_item}
use Rattle.items.specs.Format.{reach_of, drawn_as, items_from}
use Rattle.redraw.specs.Drawing.{popped, after}
use Rattle.redraw.specs.Sheet.{canvas}
use Rattle.redraw.specs.Shed.{stays, shed}
use Rattle.compact.specs.Compact.{kept_in, compacted, compact_number}

-- 0, 1, 2 and 4 as floats
abbrev none : List ℕ
none = replicate 4 0

abbrev one : List ℕ
one = 0 ∷ 0 ∷ 128 ∷ 63 ∷ []

abbrev two : List ℕ
two = 0 ∷ 0 ∷ 0 ∷ 64 ∷ []

abbrev four : List ℕ
four = 0 ∷ 0 ∷ 128 ∷ 64 ∷ []

-- a push of columns 1 and 2, and one of column 0; a pop; a red fill of the whole canvas, and one of column 0
abbrev middle : List ℕ
middle = 1 ∷ 0 ∷ 0 ∷ 0 ∷ one ++ none ++ two ++ two

abbrev edge : List ℕ
edge = 1 ∷ 0 ∷ 0 ∷ 0 ∷ none ++ none ++ one ++ two

abbrev pop : List ℕ
pop = 2 ∷ 0 ∷ 0 ∷ 0 ∷ []

abbrev red : List ℕ
red = none ++ 255 ∷ 0 ∷ 0 ∷ 255 ∷ replicate 20 0

abbrev whole : List ℕ
whole = 3 ∷ 0 ∷ 0 ∷ 0 ∷ none ++ none ++ four ++ two ++ none ++ red

abbrev first : List ℕ
first = 3 ∷ 0 ∷ 0 ∷ 0 ∷ none ++ none ++ one ++ two ++ none ++ red

-- .. and a red fill past the right edge, and one of no width
abbrev past : List ℕ
past = 3 ∷ 0 ∷ 0 ∷ 0 ∷ four ++ none ++ one ++ two ++ none ++ red

abbrev thin : List ℕ
thin = 3 ∷ 0 ∷ 0 ∷ 0 ∷ one ++ none ++ none ++ two ++ none ++ red

abbrev sheet : List (List ℕ) → List ℕ
sheet l = encoded (4 ∷ 0 ∷ 2 ∷ 0 ∷ none) l

pub sheets :
    -- nothing; all in view; nothing in view by the canvas
    (compacted (sheet []) ≡ sheet [])
    × (compacted (sheet (whole ∷ middle ∷ whole ∷ [])) ≡ sheet (whole ∷ middle ∷ whole ∷ []))
    × (compacted (sheet (past ∷ whole ∷ thin ∷ [])) ≡ sheet (whole ∷ []))
    -- nothing in view by the clip in force, which a pop brings back; pushes and pops stay, also a pop with nothing saved
    × (compacted (sheet (pop ∷ middle ∷ first ∷ whole ∷ pop ∷ first ∷ [])) ≡ sheet (pop ∷ middle ∷ whole ∷ pop ∷ first ∷ []))
    -- under two clips that share no pixel
    × (compacted (sheet (middle ∷ edge ∷ whole ∷ first ∷ pop ∷ [])) ≡ sheet (middle ∷ edge ∷ pop ∷ []))
unfolding compacted kept_in shed stays after popped pairs joined encoded items_from drawn_as read_item read_paint reach_of canvas empty
    meet max_z min_z no_box fill_reach no_area outer_of floor_of ceil_of of_bits round add sub mul of_int lt le eq ne neg to_signed
    to_unsigned
sheets = (refl, refl, refl, refl, refl)

-- a buffer of the result's 36 bytes is enough, and one of 35 is not; before that the sheet's own checks
pub numbers :
    (compact_number (sheet (middle ∷ first ∷ [])) 36 ≡ 0)
    × (compact_number (sheet (middle ∷ first ∷ [])) 35 ≡ 19)
    × (compact_number (sheet (middle ∷ first ∷ (9 ∷ 0 ∷ 0 ∷ 0 ∷ []) ∷ [])) 0 ≡ 4)
    × (compact_number (replicate 11 0) 0 ≡ 1)
unfolding compact_number compacted kept_in shed stays after popped pairs joined encoded sheet_check checks.items_from number_at
    depth_at head_number header_ok pairs_ok pairs_from item_number saved_ok floats_ok paint_floats_ok bytes_ok paint_bytes_ok points_ok
    length_ok layout_at all_at float_ok items_from drawn_as read_item read_paint reach_of canvas empty meet max_z min_z no_box fill_reach
    no_area outer_of floor_of ceil_of of_bits round add sub mul of_int lt le eq ne neg to_signed to_unsigned
numbers = (refl, refl, refl, refl)
