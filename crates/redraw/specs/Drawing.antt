-- What a list of items draws, pixel by pixel, over any kind of shape.
-- `steps` works out the clip in force at each shape, and `pixel` folds the shapes, with their clips, over one pixel.
use Rattle.std.specs.Prelude.{Bool, true, false, cond, ◌&&◌, List, [], ◌∷◌, ℕ, ◌%◌, ◌/◌, pos}
use Rattle.geom.specs.declared.IRect.{IRect}
use Rattle.geom.specs.Box.{inside, meet}
use Rattle.draw.specs.Draw.{each_at, drawn}
use Rattle.draw.specs.Parts.{Part}

-- an item: a push, by its bytes and the box that the clip is cut to; a pop, by its bytes; a shape
pub data Item (Shape : Type 0) : Type 0 where
  push : List ℕ → IRect → Item Shape
  pop : List ℕ → Item Shape
  shape : Shape → Item Shape

-- the clip in force, and the saved clips, the last saved first
pub record Clips : Type 0 where
  pub clip : IRect
  pub saved : List IRect

-- A first clip, nothing saved.
abbrev pub only : IRect → Clips
only first = record { clip = first; saved = [] }

-- `pop_clip`: with nothing saved it does nothing
unfoldable pub popped : IRect → List IRect → Clips
popped c [] = record { clip = c; saved = [] }
popped c (d ∷ s) = record { clip = d; saved = s }

-- the clips after an item
unfoldable pub after : {Shape : Type 0} → Item Shape → Clips → Clips
after (push s b) c = record { clip = meet c.clip b; saved = c.clip ∷ c.saved }
after (pop s) c = popped c.clip c.saved
after (shape a) c = c

-- a shape and the clip under which it is drawn
pub record Step (Shape : Type 0) : Type 0 where
  pub under : IRect
  pub drawn : Shape

unfoldable pub with_step : {Shape : Type 0} → Item Shape → IRect → List (Step Shape) → List (Step Shape)
with_step (push s b) c l = l
with_step (pop s) c l = l
with_step (shape a) c l = record { under = c; drawn = a } ∷ l

-- the shapes of a list of items, each with the clip in force at it
unfoldable pub steps : {Shape : Type 0} → List (Item Shape) → Clips → List (Step Shape)
steps [] c = []
steps (i ∷ r) c = with_step i c.clip (steps r (after i c))

-- What a kind of shape is to the theorem: a shape's reach, its box before any clip, and the value that it gives a pixel of its
-- reach, from the column, the row and the value before. One shape may blend a pixel several times: it is drawn in its parts, one
-- after the other, and takes one step a part at each pixel.
pub record Kind : Type 1 where
  pub Shape : Type 0
  pub reach : Shape → IRect
  pub ink : Shape → ℕ → ℕ → ℕ → ℕ
  pub parts : Shape → List Part

module _ (K : Kind) where
  -- whether the step alters the pixel at column x and row y: it lies in the clip and in the reach
  unfoldable pub meets : Step K.Shape → ℕ → ℕ → Bool
  meets s x y = inside s.under (pos x) (pos y) && inside (K.reach s.drawn) (pos x) (pos y)

  -- the pixel after a shape that does, or does not, meet it
  unfoldable pub inked : Bool → K.Shape → ℕ → ℕ → ℕ → ℕ
  inked true a x y p = K.ink a x y p
  inked false a x y p = p

  -- the pixel after the steps, from its value p
  unfoldable pub pixel : List (Step K.Shape) → ℕ → ℕ → ℕ → ℕ
  pixel [] x y p = p
  pixel (s ∷ r) x y p = pixel r x y (inked (meets s x y) s.drawn x y p)

  -- the pixel of the items drawn on `ground_pixel` from a first clip, nothing saved
  unfoldable pub pixel_of : List (Item K.Shape) → IRect → ℕ → ℕ → ℕ → ℕ
  pixel_of items first ground_pixel x y = pixel (steps items (only first)) x y ground_pixel

module _ (K : Kind) where
  -- the word p at column x and row y after a box is grounded and drawn: only words of the box are altered
  unfoldable pub word_in : Bool → List (Item K.Shape) → IRect → ℕ → ℕ → ℕ → ℕ → ℕ
  word_in true items box ground_pixel x y p = pixel_of K items box ground_pixel x y
  word_in false items box ground_pixel x y p = p

  -- px, in rows of `pitch` words, after the box is set to the ground and the items are drawn with the box as first clip
  unfoldable pub painted_in : ℕ → IRect → ℕ → List (Item K.Shape) → List ℕ → List ℕ
  painted_in pitch box ground_pixel items =
      each_at (λ i p. word_in (inside box (pos (i % pitch)) (pos (i / pitch))) items box ground_pixel (i % pitch) (i / pitch) p) 0

-- ---- item by item: what the shape methods and the loop over the items leave in px

module _ (K : Kind) where
  -- px after a shape's method under a clip, as the contracts of the shapes have it
  unfoldable pub shape_on : ℕ → IRect → K.Shape → List ℕ → List ℕ
  shape_on pitch c a px = drawn pitch c (K.reach a) (K.ink a) px

  -- px after one item: a push or a pop leaves it
  unfoldable pub item_on : ℕ → Item K.Shape → IRect → List ℕ → List ℕ
  item_on pitch (push s b) c px = px
  item_on pitch (pop s) c px = px
  item_on pitch (shape a) c px = shape_on pitch c a px

  -- px after the items, from the clips c
  unfoldable pub items_on : ℕ → List (Item K.Shape) → Clips → List ℕ → List ℕ
  items_on pitch [] c px = px
  items_on pitch (i ∷ r) c px = items_on pitch r (after i c) (item_on pitch i c.clip px)

-- px after a box is set to the ground
unfoldable pub ground_in : ℕ → IRect → ℕ → List ℕ → List ℕ
ground_in pitch box ground_pixel = each_at (λ i p. cond (inside box (pos (i % pitch)) (pos (i / pitch))) ground_pixel p) 0
