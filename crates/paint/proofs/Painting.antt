-- An accepted sheet, drawn from a first clip, is redraw's painting of it. Assumes nothing.
use Prim.Native.Nat.{ℕ, suc, ◌*◌, ◌/◌, ◌%◌, ◌≤◌}
use mathlib.Core.Path.{◌≡◌, refl, ap, ◌∙◌}
use mathlib.Core.Bool.{Bool, true, false, cond, ◌&&◌}
use mathlib.Core.List.{List, [], ◌∷◌}
use native.Mathlib.Nat.{zero-add}
use lib.Ieee.{Float}
use lib.IntN.{pos}
use lib.ListN.{length}
use Rattle.geom.specs.Box.{inside}
use Rattle.geom.specs.declared.IRect.{IRect}
use Rattle.color.specs.Colours.{pix_of}
use Rattle.draw.specs.Draw.{each_at, onto, meets, drawn, differ}
use Rattle.draw.specs.Frame.{pitch_number}
use Rattle.draw.proofs.Frame.{in_pitch}
use Rattle.gfx.specs.State.{clip_ok}
use Rattle.gfx.proofs.Sizes.{Open, open_number}
use Rattle.redraw.proofs.Lists.{Lends}
use Rattle.gfx.specs.Calls.{left}
use Rattle.gfx.specs.declared.Canvas.{Canvas}
use Rattle.poly.specs.Poly.{cleared}
use Rattle.sheet.specs.Check.{width_of, height_of, count_of, sheet_check, verdict}
use Rattle.items.specs.Items.{ground_of}
use Rattle.items.specs.Format.{items_from, sheet_of, kind, format, zero_word}
use Rattle.redraw.specs.declared.Reply.{Reply}
use Rattle.redraw.specs.Drawing.{only, items_on, ground_in}
use Rattle.redraw.specs.Sheet as redraw
use Rattle.redraw.specs.Sheet.{Outcome, draws, answer, pixels}
use Rattle.redraw.specs.Counts.{items_alter, steps_of, grounds_of}
use Rattle.redraw.specs.Calls.{Does}
use Rattle.redraw.proofs.Items.{length_ground}
use Rattle.redraw.proofs.Rules.{does_drawn}
use Rattle.clips.specs.States.{state_in}
use Rattle.clips.proofs.Clips.{saved_of}
use Rattle.clips.proofs.Standing.{stands_first}
use Rattle.render.specs.Stages.{stage, stages_from, steps_from}
use Rattle.render.proofs.Drawing.{At, drawn_px, drawn_steps, drawn_scratch}
use Rattle.paint.specs.Paint.{need_in, state_of, grounded_in, DrewSheet}

-- ---- the items, from a state with a first clip

module _ (s : List ℕ) (pitch : ℕ) (e : sheet_check s ≡ verdict 0 0) (rows : pitch_number (width_of s) pitch ≡ 0) (first : IRect)
    (ok : clip_ok (pos (width_of s)) (pos (height_of s)) first ≡ true) where
  abbrev c : Canvas
  c = state_in (pos (width_of s)) (pos (height_of s)) pitch first

  module _ (px : List ℕ) (scratch : List Float) (count : length px ≡ pitch * height_of s) (words : need_in s ≤ length scratch) where
    start : At s pitch 0 (stage c px scratch) (need_in s)
    unfolding state_in
    start = record { stands = stands_first s pitch first e rows ok; count = count; words = words }

    -- px and scratch after the items, and their steps
    items_px : (stages_from s (count_of s) 0 (stage c px scratch)).px ≡ items_on kind pitch (items_from s (count_of s) 0) (only first) px
    unfolding state_in saved_of
    items_px = drawn_px s pitch e (count_of s) 0 (stage c px scratch) (zero-add (count_of s)) start

    items_steps : steps_from s (count_of s) 0 (stage c px scratch) ≡ items_alter kind pitch (items_from s (count_of s) 0) (only first) px
    unfolding state_in saved_of
    items_steps = drawn_steps s pitch e (count_of s) 0 (stage c px scratch) (zero-add (count_of s)) start

    items_scratch : (stages_from s (count_of s) 0 (stage c px scratch)).scratch ≡ cleared (need_in s) scratch
    items_scratch = drawn_scratch s pitch e (count_of s) 0 (stage c px scratch) (zero-add (count_of s)) start

-- ---- the ground

each_same : (f g : ℕ → ℕ → ℕ) (i : ℕ) (px : List ℕ) → ((j v : ℕ) → f j v ≡ g j v) → each_at f i px ≡ each_at g i px
unfolding each_at
each_same f g i [] h = refl
each_same f g i (v ∷ px) h = rw (h i v, each_same f g (suc i) px h)

twice : (b : IRect) (x y : ℕ) → meets b b x y ≡ inside b (pos x) (pos y)
unfolding meets
twice b x y = go (inside b (pos x) (pos y))
  where
    go : (t : Bool) → t && t ≡ t
    go true = refl
    go false = refl

-- a clip that is filled with the ground is a box set to it
ground_is : (w : ℕ) (b : IRect) (v : ℕ) (px : List ℕ) → drawn w b b (λ _ _ _. v) px ≡ ground_in w b v px
unfolding drawn onto ground_in
ground_is w b v px = each_same _ _ 0 px (λ j p. ap (λ (t : Bool). cond t v p) (twice b (j % w) (j / w)))

-- ---- a sheet drawn in an area, on what is lent

module _ (s : List ℕ) (pitch : ℕ) (e : sheet_check s ≡ verdict 0 0) (area : IRect) (ok : clip_ok (pos (width_of s)) (pos (height_of s)) area ≡ true)
    (px : List ℕ) (scratch : List Float) (l : Lends format (sheet_of s) pitch (length px) (length scratch)) where
  rows : pitch_number (width_of s) pitch ≡ 0
  rows = in_pitch l.frame.rows

  opened : Open (state_of s pitch area) (length px)
  unfolding state_in
  opened = record { valid = (stands_first s pitch area e rows ok).sound.valid; frame = l.frame }

  grounded_px : List ℕ
  grounded_px = ground_in pitch area (pix_of (ground_of s)) px

  grounded : grounded_in s pitch area px ≡ grounded_px
  unfolding grounded_in left state_in grounded_px
  grounded = rw (open_number opened) (ground_is pitch area (pix_of (ground_of s)) px)

  long : length grounded_px ≡ pitch * height_of s
  unfolding grounded_px
  long = length_ground pitch area (pix_of (ground_of s)) px ∙ l.frame.long

  -- what was drawn is what an outcome that draws the sheet in the area asks
  pub drawn_does : {o : Outcome (List ℕ)} {r : Reply} {px' : List ℕ} {scratch' : List Float} → o ≡ draws (sheet_of s) area
      → DrewSheet s pitch area px scratch r px' scratch' → Does zero_word format pitch o px scratch r px' scratch'
  unfolding answer steps_of grounds_of pixels redraw.cleared cleared grounded_px
  drawn_does {o} {r} {px'} {scratch'} is d =
      does_drawn zero_word format pitch px scratch o (draws (sheet_of s) area) r px' scratch' is d.answers
      (d.leaves.counts ∙ rw grounded (items_steps s pitch e rows area ok grounded_px scratch long l.enough))
      (d.grounds ∙ ap (differ px) grounded)
      (d.leaves.paints ∙ rw grounded (items_px s pitch e rows area ok grounded_px scratch long l.enough))
      (d.leaves.clears ∙ rw grounded (items_scratch s pitch e rows area ok grounded_px scratch long l.enough))
