-- The state of the canvas before the first item, and after each, for any bytes at all: what the walks of drawing, measuring and
-- comparing share. No call of the library cites this file. Its laws (proofs/Standing) say that its clips are redraw's for the
-- items of an accepted sheet. Assumes nothing.
use Rattle.std.specs.Prelude.{ℕ, Bool, true, false, List, ℤ, pos, replicate}
use Rattle.geom.specs.Box.{no_box}
use Rattle.geom.specs.Plane.{outer_of}
use Rattle.geom.specs.declared.IRect.{IRect}
use Rattle.gfx.specs.State.{pushed, popped}
use Rattle.gfx.specs.Calls.{answer, state_number, push_number}
use Rattle.gfx.specs.declared.Canvas.{Canvas}
use Rattle.sheet.specs.Check.{width_of, height_of}
use Rattle.redraw.specs.Drawing as drawing
use Rattle.redraw.specs.Drawing.{push, pop, shape}
use Rattle.redraw.specs.Sheet.{canvas}
use Rattle.items.specs.Format.{sheet_of}
use Rattle.items.specs.declared.Item.{Item}
use Rattle.items.specs.declared.Item.TheVariants.{Push, Pop, Fill, Stroke, Line, Poly, Shadow, Chain, Unknown}

-- a canvas with a first clip and nothing saved
unfoldable pub state_in : ℤ → ℤ → ℕ → IRect → Canvas
state_in w h pitch first = record { w = w; h = h; pitch = pitch; clip = first; saved = replicate 16 no_box; depth = 0 }

-- that of a sheet painted from nothing, in rows as long as its canvas
abbrev pub start_of : List ℕ → Canvas
start_of s = state_in (pos (width_of s)) (pos (height_of s)) (width_of s) (canvas (sheet_of s))

-- the state that `push_clip` or `pop_clip` returns; a shape leaves it
unfoldable pub state_after : Item → Canvas → Canvas
state_after (Push rect) c = (answer (push_number c rect) c (pushed c (outer_of rect))).canvas
state_after Pop c = (answer (state_number c) c (popped c)).canvas
state_after (Fill rect r paint) c = c
state_after (Stroke rect r width color) c = c
state_after (Line a e width color) c = c
state_after (Poly paint count) c = c
state_after (Shadow rect r blur color skip) c = c
state_after (Chain width color count) c = c
state_after Unknown c = c

-- an item that is neither a push nor a pop
unfoldable pub is_shape : drawing.Item (List ℕ) → Bool
is_shape (push b box) = false
is_shape (pop b) = false
is_shape (shape b) = true
