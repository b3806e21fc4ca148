-- The sheet as painting and patching take it: redraw's `Kind` and `Format`. An item is its bytes: of a shape they say its reach,
-- its ink and the scratch words that it needs, of a push its box. Assumes nothing.
use Rattle.std.specs.Prelude.{ℕ, zero, suc, ◌+◌, max, Bool, true, false, cond, ◌&&◌, List, [], ◌∷◌, leb, eqb, Float}
use Rattle.mathf.specs.F32.{f0}
use Rattle.geom.specs.Int.{eq_z}
use Rattle.geom.specs.Box.{no_box}
use Rattle.geom.specs.Plane.{outer_of}
use Rattle.geom.specs.declared.IRect.{IRect}
use Rattle.color.specs.Colours.{pix_of}
use Rattle.color.specs.declared.Color.{Color}
use Rattle.draw.specs.Parts.{Part, part, reach_all, ink_all}
use Rattle.fill.specs.Fill.{fill_reach, fill_ink}
use Rattle.stroke.specs.Stroke.{stroke_reach, stroke_ink}
use Rattle.line.specs.Lines.{line_reach, line_ink}
use Rattle.line.specs.Polylines.{chain_of}
use Rattle.poly.specs.Poly.{reach_in, need_in, poly_ink}
use Rattle.shadow.specs.Shadow.{shadow_reach, shadow_ink}
use Rattle.sheet.specs.Check.{width_of, height_of, count_of, bytes_at, sheet_check}
use Rattle.redraw.specs.Drawing as drawing
use Rattle.redraw.specs.Drawing.{push, pop, shape, Kind}
use Rattle.redraw.specs.Sheet.{Sheet, Reading, refused, read, Format}
use Rattle.items.specs.Items.{ground_of, item_of, points_of, joints_of}
use Rattle.items.specs.declared.Item.{Item}
use Rattle.items.specs.declared.Item.TheVariants.{Push, Pop, Fill, Stroke, Line, Poly, Shadow, Chain, Unknown}

-- ---- a shape, by its bytes b and the item that they are

-- the reach of a chain's lines; of more than 64 points, which no accepted sheet has, none
abbrev pub chain_reach : List ℕ → Float → Color → ℕ → IRect
chain_reach b width color count = cond (leb count 64) (reach_all (chain_of (joints_of b count) width color)) no_box

-- the reach (document 01, "A shape's reach"); what is no shape has none
unfoldable pub reach_of : List ℕ → Item → IRect
reach_of b (Push rect) = no_box
reach_of b Pop = no_box
reach_of b (Fill rect r paint) = fill_reach rect
reach_of b (Stroke rect r width color) = stroke_reach rect color
reach_of b (Line a e width color) = line_reach a e width
reach_of b (Poly paint count) = reach_in (points_of b count)
reach_of b (Shadow rect r blur color skip) = shadow_reach rect blur color
reach_of b (Chain width color count) = chain_reach b width color count
reach_of b Unknown = no_box

-- the value that its method gives the pixel at x and y, from the value before
unfoldable pub ink_of : List ℕ → Item → ℕ → ℕ → ℕ → ℕ
ink_of b (Push rect) = λ x y p. p
ink_of b Pop = λ x y p. p
ink_of b (Fill rect r paint) = fill_ink rect r paint
ink_of b (Stroke rect r width color) = stroke_ink rect r width color
ink_of b (Line a e width color) = line_ink a e width color
ink_of b (Poly paint count) = poly_ink (points_of b count) paint
ink_of b (Shadow rect r blur color skip) = shadow_ink rect r blur color skip
ink_of b (Chain width color count) = ink_all (chain_of (joints_of b count) width color)
ink_of b Unknown = λ x y p. p

-- its parts, of which each takes one step at a pixel: a chain's lines; of any other shape one
abbrev pub alone : List ℕ → Item → List Part
alone b i = part (reach_of b i) (ink_of b i) ∷ []

unfoldable pub parts_of : List ℕ → Item → List Part
parts_of b (Push rect) = alone b (Push rect)
parts_of b Pop = alone b Pop
parts_of b (Fill rect r paint) = alone b (Fill rect r paint)
parts_of b (Stroke rect r width color) = alone b (Stroke rect r width color)
parts_of b (Line a e width color) = alone b (Line a e width color)
parts_of b (Poly paint count) = alone b (Poly paint count)
parts_of b (Shadow rect r blur color skip) = alone b (Shadow rect r blur color skip)
parts_of b (Chain width color count) = cond (leb count 64) (chain_of (joints_of b count) width color) []
parts_of b Unknown = alone b Unknown

-- the scratch words that it needs
unfoldable pub need_of : List ℕ → Item → ℕ
need_of b (Push rect) = 0
need_of b Pop = 0
need_of b (Fill rect r paint) = 0
need_of b (Stroke rect r width color) = 0
need_of b (Line a e width color) = 0
need_of b (Poly paint count) = need_in (points_of b count)
need_of b (Shadow rect r blur color skip) = 0
need_of b (Chain width color count) = 0
need_of b Unknown = 0

abbrev pub kind : Kind
kind =
    record {
      Shape = List ℕ;
      reach = λ b. reach_of b (item_of b);
      ink = λ b. ink_of b (item_of b);
      parts = λ b. parts_of b (item_of b);
    }

-- ---- items

-- the item as redraw has it: a push with the box that its rectangle's clip is cut to
unfoldable pub drawn_as : List ℕ → Item → drawing.Item (List ℕ)
drawn_as b (Push rect) = push b (outer_of rect)
drawn_as b Pop = pop b
drawn_as b (Fill rect r paint) = shape b
drawn_as b (Stroke rect r width color) = shape b
drawn_as b (Line a e width color) = shape b
drawn_as b (Poly paint count) = shape b
drawn_as b (Shadow rect r blur color skip) = shape b
drawn_as b (Chain width color count) = shape b
drawn_as b Unknown = shape b

abbrev pub item_in : List ℕ → drawing.Item (List ℕ)
item_in b = drawn_as b (item_of b)

-- its bytes again
abbrev pub bytes_of : drawing.Item (List ℕ) → List ℕ
bytes_of (push b box) = b
bytes_of (pop b) = b
bytes_of (shape b) = b

-- `left` items from the item k on
unfoldable pub items_from : List ℕ → ℕ → ℕ → List (drawing.Item (List ℕ))
items_from s zero k = []
items_from s (suc left) k = item_in (bytes_at s k) ∷ items_from s left (k + 1)

-- what an item needs, and the greatest need of a list of items, 0 without any
unfoldable pub item_need : drawing.Item (List ℕ) → ℕ
item_need (push b box) = 0
item_need (pop b) = 0
item_need (shape b) = need_of b (item_of b)

unfoldable pub needs : List (drawing.Item (List ℕ)) → ℕ
needs [] = 0
needs (i ∷ r) = max (item_need i) (needs r)

-- two items are the same where their bytes are; the box of a push is read off them
unfoldable pub same_bytes : List ℕ → List ℕ → Bool
same_bytes [] [] = true
same_bytes [] (y ∷ b) = false
same_bytes (x ∷ a) [] = false
same_bytes (x ∷ a) (y ∷ b) = eqb x y && same_bytes a b

unfoldable pub same_box : IRect → IRect → Bool
same_box a b = eq_z a.x0 b.x0 && eq_z a.y0 b.y0 && eq_z a.x1 b.x1 && eq_z a.y1 b.y1

unfoldable pub same_item : drawing.Item (List ℕ) → drawing.Item (List ℕ) → Bool
same_item (push a p) (push b q) = same_bytes a b && same_box p q
same_item (push a p) (pop b) = false
same_item (push a p) (shape b) = false
same_item (pop a) (push b q) = false
same_item (pop a) (pop b) = same_bytes a b
same_item (pop a) (shape b) = false
same_item (shape a) (push b q) = false
same_item (shape a) (pop b) = false
same_item (shape a) (shape b) = same_bytes a b

-- ---- the sheet

abbrev pub sheet_of : List ℕ → Sheet (List ℕ)
sheet_of s = record { w = width_of s; h = height_of s; ground_pixel = pix_of (ground_of s); items = items_from s (count_of s) 0 }

-- refused by its number and item, or read
unfoldable pub reading : List ℕ → Reading (List ℕ)
reading s = cond (eqb (sheet_check s).number 0) (read (sheet_of s)) (refused (sheet_check s).number (sheet_check s).item)

abbrev pub format : Format
format = record { kind = kind; reading = reading; need = needs; same = same_item }

-- a scratch word as a call leaves it
abbrev pub zero_word : Float
zero_word = f0
