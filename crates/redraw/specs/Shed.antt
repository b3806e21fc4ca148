-- SHEDDING DEAD SHAPES (document 02, 2026-11), over any kind of shape: which items of a sheet stay. Its laws are in proofs/Shed.
use Rattle.std.specs.Prelude.{Bool, true, cond, not, List, [], ◌∷◌}
use Rattle.geom.specs.declared.IRect.{IRect}
use Rattle.geom.specs.Box.{empty}
use Rattle.redraw.specs.Drawing.{Item, push, pop, shape, Clips, only, after, Kind}
use Rattle.redraw.specs.Sheet.{Sheet, cut_reach, canvas}

module _ (K : Kind) where
  -- whether an item stays where a clip is in force: "shapes whose reach under their clip is empty are dropped", pushes and pops
  -- never
  unfoldable pub stays : Item K.Shape → IRect → Bool
  stays (push s b) clip = true
  stays (pop s) clip = true
  stays (shape a) clip = not (empty (cut_reach K.reach (record { under = clip; drawn = a })))

  -- the items that stay, from the clips c on, in their order
  unfoldable pub shed : List (Item K.Shape) → Clips → List (Item K.Shape)
  shed [] c = []
  shed (i ∷ r) c = cond (stays i c.clip) (i ∷ shed r (after i c)) (shed r (after i c))

  -- a sheet without the others, its clips being those of painting it from nothing
  abbrev pub shed_of : Sheet K.Shape → Sheet K.Shape
  shed_of s = record { w = s.w; h = s.h; ground_pixel = s.ground_pixel; items = shed s.items (only (canvas s)) }
