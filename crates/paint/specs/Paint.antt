-- What painting and patching share: the need of a sheet, drawing in an area, and the reply of a result. No call of the library
-- cites this file: what both call does. Assumes nothing.
use Rattle.std.specs.Prelude.{ℕ, List, ◌≡◌, Float, pos, length, Ok, Err}
use Rattle.std.specs.declared.result.Result.{Result}
use Rattle.geom.specs.Refusals.{code}
use Rattle.geom.specs.declared.IRect.{IRect}
use Rattle.color.specs.Colours.{pix_of}
use Rattle.draw.specs.Draw.{drawn, differ}
use Rattle.gfx.specs.Calls.{left, px_number}
use Rattle.gfx.specs.declared.Canvas.{Canvas}
use Rattle.sheet.specs.Check.{width_of, height_of, count_of}
use Rattle.sheet.specs.declared.check.Fault.{Fault}
use Rattle.items.specs.Items.{ground_of}
use Rattle.items.specs.Format.{needs, items_from}
use Rattle.clips.specs.States.{state_in}
use Rattle.redraw.specs.declared.Reply.{Reply}
use Rattle.redraw.specs.Calls.{refused_by}
use Rattle.render.specs.Stages.{Stage, stage, stages_from, steps_from, Left}

-- the scratch words that a sheet needs: the greatest need among its polygons
abbrev pub need_in : List ℕ → ℕ
need_in s = needs (items_from s (count_of s) 0)

-- ---- what drawing a sheet in an area does, for any bytes: the ground, then the items

-- the canvas in rows of `pitch` words, with the area as clip and nothing saved
abbrev pub state_of : List ℕ → ℕ → IRect → Canvas
state_of s pitch area = state_in (pos (width_of s)) (pos (height_of s)) pitch area

-- px with the clip set to the ground, where the state is accepted
unfoldable pub grounded_in : List ℕ → ℕ → IRect → List ℕ → List ℕ
grounded_in s pitch area px =
    let c = state_of s pitch area in
    left (px_number c (length px)) px (drawn c.pitch c.clip c.clip (λ _ _ _. pix_of (ground_of s)) px)

abbrev pub first_stage : List ℕ → ℕ → IRect → List ℕ → List Float → Stage
first_stage s pitch area px scratch = stage (state_of s pitch area) (grounded_in s pitch area px) scratch

pub record DrewSheet (s : List ℕ) (pitch : ℕ) (area : IRect) (px : List ℕ) (scratch : List Float) (r : Reply) (px' : List ℕ)
    (scratch' : List Float) : Type 0 where
  pub answers : r.answer ≡ record { number = 0; item = 0; area = area }
  pub grounds : r.grounded ≡ differ px (grounded_in s pitch area px)
  pub leaves : let all = stages_from s (count_of s) 0 (first_stage s pitch area px scratch) in
      Left all.px all.scratch (steps_from s (count_of s) 0 (first_stage s pitch area px scratch)) px' scratch' r.steps

-- the reply of a call: its own, or that of a refused one
abbrev pub reply_of : Result Reply Fault → Reply
reply_of (Ok r) = r
reply_of (Err f) = refused_by (code f.refusal) f.item
