-- The items of a sheet as values (document 01, "The sheet"). An item is read from its own bytes, of which p is a place. Reading
-- is total: past the end a byte is 0, and a kind that no accepted sheet has is an item that draws nothing. Assumes nothing.
use Rattle.std.specs.Prelude.{ℕ, zero, suc, ◌+◌, ◌-◌, ◌*◌, ◌≤◌, List, [], ◌∷◌, eqb, ◌≡◌, length, take, drop, Float}
use Rattle.geom.specs.declared.Pt.{Pt}
use Rattle.geom.specs.declared.Rect.{Rect}
use Rattle.geom.specs.Plane.{pt_of, rect_of}
use Rattle.color.specs.declared.Color.{Color}
use Rattle.color.specs.Colours.{rgb_of, rgba_of}
use Rattle.paints.specs.declared.Paint.{Paint}
use Rattle.paints.specs.declared.Paint.TheVariants.{Solid, VGrad, Linear, Radial}
use Rattle.sheet.specs.Bytes.{byte_at, float_at, lookup}
use Rattle.sheet.specs.Kinds.{kind_at, points_at}
use Rattle.sheet.specs.Check.{bytes_at}
use Rattle.items.specs.declared.Item.{Item}
use Rattle.items.specs.declared.Item.TheVariants.{Push, Pop, Fill, Stroke, Line, Poly, Shadow, Chain, Unknown}

-- the ground: R G B
abbrev pub ground_of : List ℕ → Color
ground_of s = rgb_of (byte_at s 4) (byte_at s 5) (byte_at s 6)

-- a colour: R G B A
abbrev pub read_color : List ℕ → ℕ → Color
read_color s p = rgba_of (byte_at s p) (byte_at s (p + 1)) (byte_at s (p + 2)) (byte_at s (p + 3))

abbrev pub read_pt : List ℕ → ℕ → Pt
read_pt s p = pt_of (float_at s p) (float_at s (p + 4))

abbrev pub read_rect : List ℕ → ℕ → Rect
read_rect s p = rect_of (float_at s p) (float_at s (p + 4)) (float_at s (p + 8)) (float_at s (p + 12))

-- a paint: its kind, three zeros, c0, c1, four floats; an accepted one has a kind of 0 to 3
unfoldable pub read_paint : List ℕ → ℕ → Paint
read_paint s p =
    let c0 = read_color s (p + 4) in
    let c1 = read_color s (p + 8) in
    lookup (byte_at s p)
    ((0, Solid c0)
    ∷ (1, VGrad (float_at s (p + 12)) (float_at s (p + 16)) c0 c1)
    ∷ (2, Linear (read_pt s (p + 12)) (read_pt s (p + 20)) c0 c1)
    ∷ [])
    (Radial (read_pt s (p + 12)) (float_at s (p + 20)) c0 c1)

-- the items with several fields
abbrev pub read_fill : List ℕ → ℕ → Item
read_fill s p = Fill (read_rect s (p + 4)) (float_at s (p + 20)) (read_paint s (p + 24))

abbrev pub read_stroke : List ℕ → ℕ → Item
read_stroke s p = Stroke (read_rect s (p + 4)) (float_at s (p + 20)) (float_at s (p + 24)) (read_color s (p + 28))

abbrev pub read_line : List ℕ → ℕ → Item
read_line s p = Line (read_pt s (p + 4)) (read_pt s (p + 12)) (float_at s (p + 20)) (read_color s (p + 24))

abbrev pub read_poly : List ℕ → ℕ → Item
read_poly s p = Poly (read_paint s (p + 4)) (points_at s p)

abbrev pub read_shadow : List ℕ → ℕ → Item
read_shadow s p =
    Shadow (read_rect s (p + 4)) (float_at s (p + 20)) (float_at s (p + 24)) (read_color s (p + 28)) (eqb (byte_at s (p + 1)) 1)

abbrev pub read_chain : List ℕ → ℕ → Item
read_chain s p = Chain (float_at s (p + 4)) (read_color s (p + 8)) (points_at s p)

-- the item that starts at p
unfoldable pub read_item : List ℕ → ℕ → Item
read_item s p =
    lookup (kind_at s p)
    ((1, Push (read_rect s (p + 4)))
    ∷ (2, Pop)
    ∷ (3, read_fill s p)
    ∷ (4, read_stroke s p)
    ∷ (5, read_line s p)
    ∷ (6, read_poly s p)
    ∷ (7, read_shadow s p)
    ∷ (8, read_chain s p)
    ∷ [])
    Unknown

-- the item that some bytes are
abbrev pub item_of : List ℕ → Item
item_of b = read_item b 0

-- the bytes from one place to another are those of the item k
pub record Lies (s : List ℕ) (k from to : ℕ) : Type 0 where
  pub order : from ≤ to
  pub inside : to ≤ length s
  pub bytes : take (to - from) (drop from s) ≡ bytes_at s k

-- n coordinates from p on, x y x y
unfoldable pub coords_from : List ℕ → ℕ → ℕ → List Float
coords_from s p zero = []
coords_from s p (suc n) = float_at s p ∷ coords_from s (p + 4) n

-- the m points of a polygon, and of a chain
abbrev pub points_of : List ℕ → ℕ → List Float
points_of b m = coords_from b 32 (2 * m)

abbrev pub joints_of : List ℕ → ℕ → List Float
joints_of b m = coords_from b 12 (2 * m)
