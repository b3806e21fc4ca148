-- The kinds of items (document 01, "The sheet"), and the number that an item is refused with.
-- `s` is the sheet, and `at` the place of the item's first byte.
use Rattle.std.specs.Prelude.{ℕ, ◌+◌, ◌-◌, ◌*◌, ◌≡◌, List, [], ◌∷◌, Bool, false, not, ◌&&◌, ◌||◌, ltb, leb, eqb, MatchResult}
use Rattle.std.specs.declared.result.Result.{Result}
use Rattle.geom.specs.declared.checks.Refusal.{Refusal}
use Rattle.geom.specs.declared.checks.Refusal.TheVariants as refusals
use Rattle.geom.specs.Refusals.{unless}
use Rattle.sheet.specs.Bytes.{byte_at, u16_at, zeros, float_ok_at, floats, lookup}
use Rattle.sheet.specs.declared.kinds.Layout.{Layout}
use Rattle.sheet.specs.declared.kinds.Kind.{Kind}
use Rattle.sheet.specs.declared.kinds.Kind.TheVariants.{Push, Pop, Fill, Stroke, Line, Poly, Shadow, Chain}
use Rattle.sheet.specs.declared.kinds.PaintKind.{PaintKind}
use Rattle.sheet.specs.declared.kinds.PaintKind.TheVariants.{Solid, VGrad, Linear, Radial}

-- the number that stands for a kind of item, and for a kind of paint
abbrev pub kind_code : Kind → ℕ
kind_code Push = 1
kind_code Pop = 2
kind_code Fill = 3
kind_code Stroke = 4
kind_code Line = 5
kind_code Poly = 6
kind_code Shadow = 7
kind_code Chain = 8

abbrev pub paint_code : PaintKind → ℕ
paint_code Solid = 0
paint_code VGrad = 1
paint_code Linear = 2
paint_code Radial = 3

-- a number is a kind's: those of items run from 1 to 8, those of paints from 0 to 3
abbrev pub known : ℕ → Bool
known n = leb 1 n && leb n 8

abbrev pub known_paint : ℕ → Bool
known_paint n = leb n 3

-- the kind with a number, or the refusal of a number that no kind has
abbrev pub IsKind : ℕ → Result Kind Refusal → Type 0
IsKind n r = MatchResult r (λ kind. kind_code kind ≡ n) (λ e. (e ≡ refusals.Kind) × (known n ≡ false))

abbrev pub IsPaint : ℕ → Result PaintKind Refusal → Type 0
IsPaint n r = MatchResult r (λ kind. paint_code kind ≡ n) (λ e. (e ≡ refusals.ZeroByte) × (known_paint n ≡ false))

-- the kind; bytes 2 and 3, which are m in a polygon and in a chain
abbrev pub kind_at : List ℕ → ℕ → ℕ
kind_at s at = byte_at s at

abbrev pub points_at : List ℕ → ℕ → ℕ
points_at s at = u16_at s (at + 2)

-- Where the fields of an item, or of a paint, lie, counted from its first byte: its length; the bytes that it leaves zero, the
-- first and how many; its floats, likewise; its paint, 0 where it has none.
abbrev pub row : ℕ → ℕ → ℕ → ℕ → ℕ → ℕ → Layout
row l z zs f fs p = record { length = l; zero = z; zeros = zs; float = f; floats = fs; paint = p }

-- an item of a kind, m being its bytes 2 and 3; the length 0 stands for a kind that is not known
abbrev pub layout_of : ℕ → ℕ → Layout
layout_of kind m =
    lookup kind
    ((1, row 20 1 3 4 4 0)  -- push clip: x y w h
    ∷ (2, row 4 1 3 4 0 0)  -- pop clip
    ∷ (3, row 52 1 3 4 5 24)  -- fill: x y w h r, paint
    ∷ (4, row 32 1 3 4 6 0)  -- stroke: x y w h r width, colour
    ∷ (5, row 28 1 3 4 5 0)  -- line: ax ay bx by width, colour
    ∷ (6, row (32 + 8 * m) 1 1 32 (2 * m) 4)  -- polygon: paint, m points; bytes 2-3 are m
    ∷ (7, row 32 2 2 4 6 0)  -- shadow: x y w h r blur, colour; byte 1 is `skip_inside`
    ∷ (8, row (12 + 8 * m) 1 1 12 (2 * m) 0)  -- chain: width, colour, m points; bytes 2-3 are m
    ∷ [])
    (row 0 1 3 4 0 0)

unfoldable pub layout_at : List ℕ → ℕ → Layout
layout_at s at = layout_of (kind_at s at) (points_at s at)

-- a paint of a kind, beside the three zeros after its kind: c0 is at 4, c1 at 8, and the floats are from 12 on
abbrev pub paint_layout : ℕ → Layout
paint_layout kind =
    lookup kind
    ((0, row 28 8 20 12 0 0)  -- Solid: c0
    ∷ (1, row 28 20 8 12 2 0)  -- VGrad: c0, c1, y0 y1
    ∷ (2, row 28 28 0 12 4 0)  -- Linear: c0, c1, p0 p1
    ∷ (3, row 28 24 4 12 3 0)  -- Radial: c0, c1, centre, r
    ∷ [])
    (row 28 28 0 12 0 0)

-- ---- the conditions that an item is held to

-- 4: a known kind, four bytes at least, and the length of the kind
unfoldable pub length_ok : List ℕ → ℕ → ℕ → Bool
length_ok s at len = (leb 1 (kind_at s at) && leb (kind_at s at) 8) && leb 4 len && eqb len (layout_at s at).length

-- 13: at most 64 points, of a polygon and of a chain
unfoldable pub points_ok : List ℕ → ℕ → Bool
points_ok s at = not (eqb (kind_at s at) 6 || eqb (kind_at s at) 8) || leb (points_at s at) 64

-- 5: of a paint at p, its kind, and what it leaves zero
unfoldable pub paint_bytes_ok : List ℕ → ℕ → Bool
paint_bytes_ok s p =
    let f = paint_layout (byte_at s p) in
    leb (byte_at s p) 3 && zeros s (p + 1) 3 && zeros s (p + f.zero) f.zeros

-- 5: `skip_inside` of a shadow
abbrev pub skip_ok : List ℕ → ℕ → Bool
skip_ok s at = not (eqb (kind_at s at) 7) || leb (byte_at s (at + 1)) 1

-- 5: of an item, its zero bytes, `skip_inside` of a shadow, and its paint
unfoldable pub bytes_ok : List ℕ → ℕ → Bool
bytes_ok s at =
    let f = layout_at s at in
    zeros s (at + f.zero) f.zeros
    && skip_ok s at
    && (eqb f.paint 0 || paint_bytes_ok s (at + f.paint))

-- 6: the floats that a paint at p uses
unfoldable pub paint_floats_ok : List ℕ → ℕ → Bool
paint_floats_ok s p = floats s (p + 12) (paint_layout (byte_at s p)).floats

-- 6: the width of a chain, which stands apart from its points
abbrev pub width_ok : List ℕ → ℕ → Bool
width_ok s at = not (eqb (kind_at s at) 8) || float_ok_at s (at + 4)

-- 6: the floats of an item, the width of a chain, and the floats of its paint
unfoldable pub floats_ok : List ℕ → ℕ → Bool
floats_ok s at =
    let f = layout_at s at in
    floats s (at + f.float) f.floats
    && width_ok s at
    && (eqb f.paint 0 || paint_floats_ok s (at + f.paint))

-- 7: a push, where fewer than 16 clips are saved
unfoldable pub saved_ok : List ℕ → ℕ → ℕ → Bool
saved_ok s at depth = not (eqb (kind_at s at) 1) || ltb depth 16

-- the number of an item where `depth` clips are saved, or 0
unfoldable pub item_number : List ℕ → ℕ → ℕ → ℕ → ℕ
item_number s at len depth =
    unless (length_ok s at len) 4
    (unless (points_ok s at) 13
    (unless (bytes_ok s at) 5
    (unless (floats_ok s at) 6
    (unless (saved_ok s at depth) 7 0))))

-- how many clips are saved after an item of a kind: a push saves one, a pop takes one back if there is one
abbrev pub depth_after : ℕ → ℕ → ℕ
depth_after kind depth = lookup kind ((1, depth + 1) ∷ (2, depth - 1) ∷ []) depth
