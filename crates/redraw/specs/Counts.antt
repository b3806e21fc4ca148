-- How many steps of a sheet's shapes alter a pixel's value, shape after shape, each on what the one before left; and how many
-- pixels the ground alters.
use Rattle.std.specs.Prelude.{List, [], ◌∷◌, ℕ, ◌+◌, ◌*◌, replicate}
use Rattle.geom.specs.declared.IRect.{IRect}
use Rattle.draw.specs.Draw.{differ}
use Rattle.draw.specs.Parts.{alters_all}
use Rattle.redraw.specs.Drawing.{Item, push, pop, shape, Clips, only, after, Kind, item_on, ground_in}
use Rattle.redraw.specs.Sheet.{Sheet, Outcome, refuses, draws, canvas}

module _ (K : Kind) where
  -- of one item: a push or a pop alters none
  unfoldable pub item_alters : ℕ → Item K.Shape → IRect → List ℕ → ℕ
  item_alters pitch (push s b) c px = 0
  item_alters pitch (pop s) c px = 0
  item_alters pitch (shape a) c px = alters_all pitch c (K.parts a) px

  -- of the items, from the clips c
  unfoldable pub items_alter : ℕ → List (Item K.Shape) → Clips → List ℕ → ℕ
  items_alter pitch [] c px = 0
  items_alter pitch (i ∷ r) c px = item_alters pitch i c.clip px + items_alter pitch r (after i c) (item_on K pitch i c.clip px)

  -- of a call with an outcome, on px in rows of `pitch` words: by its shapes, and by the ground
  unfoldable pub steps_of : ℕ → Outcome K.Shape → List ℕ → ℕ
  steps_of pitch (refuses n k) px = 0
  steps_of pitch (draws s box) px = items_alter pitch s.items (only box) (ground_in pitch box s.ground_pixel px)

  unfoldable pub grounds_of : ℕ → Outcome K.Shape → List ℕ → ℕ
  grounds_of pitch (refuses n k) px = 0
  grounds_of pitch (draws s box) px = differ px (ground_in pitch box s.ground_pixel px)

  -- how busy a sheet is: the steps of its fresh painting
  unfoldable pub fresh_steps : Sheet K.Shape → ℕ
  fresh_steps s = items_alter s.w s.items (only (canvas s)) (replicate (s.w * s.h) s.ground_pixel)
