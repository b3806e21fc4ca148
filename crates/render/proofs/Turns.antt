-- The items of a sheet, one turn after the other: what is drawn so far, drawn on, is the whole. Assumes nothing.
--     Run                 the invariant of the loop over the items, with the steps so far
--     run_start           the loop begins
--     run_shape           the turn draws a shape, which leaves the state
--     run_other           the turn has a push or a pop, which leaves px and scratch
--     run_end             no item is left
use Prim.Native.Nat.{ℕ, suc, ◌+◌, ◌-◌, ◌*◌, ◌<◌, ◌≤◌}
use mathlib.Core.Path.{◌≡◌, refl, sym, ap, ◌∙◌}
use mathlib.Core.Bool.{true, false, false≢true}
use mathlib.Core.List.{List}
use native.Mathlib.Nat.{sub-zero, zero-add, add-zero}
use native.Mathlib.Omega.{arith}
use lib.Ieee.{Float}
use lib.ListN.{length}
use Rattle.gfx.specs.declared.Canvas.{Canvas}
use Rattle.sheet.specs.Check.{bytes_at}
use Rattle.items.specs.Items.{item_of}
use Rattle.items.specs.Format.{drawn_as, item_in}
use Rattle.items.specs.declared.Item.{Item}
use Rattle.items.specs.declared.Item.TheVariants.{Push, Pop, Fill, Stroke, Line, Poly, Shadow, Chain, Unknown}
use Rattle.clips.specs.States.{state_after, is_shape}
use Rattle.clips.proofs.Shapes.{shape_leaves}
use Rattle.render.specs.Stages.{shape_px, shape_scratch, shape_steps, Left, DrewItem, Stage, stage, stage_after, stages_from, item_steps, steps_from}
use Rattle.render.proofs.Few.{item_few}

-- ---- a push or a pop

pub record Idle (b : List ℕ) (i : Item) (c : Canvas) (px : List ℕ) (scratch : List Float) : Type 0 where
  pub px_left : shape_px b i c px (length scratch) ≡ px
  pub scratch_left : shape_scratch b i c (length px) scratch ≡ scratch
  pub no_step : shape_steps b i c px (length scratch) ≡ 0

idle : (b : List ℕ) (i : Item) (c : Canvas) (px : List ℕ) (scratch : List Float) → is_shape (drawn_as b i) ≡ false → Idle b i c px scratch
unfolding is_shape drawn_as shape_px shape_scratch shape_steps
idle b (Push rect) c px scratch e = record { px_left = refl; scratch_left = refl; no_step = refl }
idle b Pop c px scratch e = record { px_left = refl; scratch_left = refl; no_step = refl }
idle b (Fill rect r paint) c px scratch e = absurd (false≢true (sym e))
idle b (Stroke rect r width color) c px scratch e = absurd (false≢true (sym e))
idle b (Line p q width color) c px scratch e = absurd (false≢true (sym e))
idle b (Poly paint count) c px scratch e = absurd (false≢true (sym e))
idle b (Shadow rect r blur color skip) c px scratch e = absurd (false≢true (sym e))
idle b (Chain width color count) c px scratch e = absurd (false≢true (sym e))
idle b Unknown c px scratch e = absurd (false≢true (sym e))

-- ---- the loop

module _ (s : List ℕ) (n : ℕ) (state₀ : Canvas) (px₀ : List ℕ) (scratch₀ : List Float) where
  pub record Run (state : Canvas) (px : List ℕ) (scratch : List Float) (steps k : ℕ) : Type 0 where
    pub rest : stages_from s (n - k) k (stage state px scratch) ≡ stages_from s n 0 (stage state₀ px₀ scratch₀)
    pub counts : steps + steps_from s (n - k) k (stage state px scratch) ≡ steps_from s n 0 (stage state₀ px₀ scratch₀)
    pub few : steps ≤ 536870912 * k
    pub within : k ≤ n
    pub px_length : length px ≡ length px₀
    pub scratch_length : length scratch ≡ length scratch₀

  pub run_start : Run state₀ px₀ scratch₀ 0 0
  run_start =
      record { rest = rw sub-zero; counts = rw (sub-zero, zero-add); few = omega arith; within = omega arith; px_length = refl; scratch_length = refl }

  -- one item more
  turn : (k : ℕ) (t : Stage) → k < n → stages_from s (n - k) k t ≡ stages_from s (n - (k + 1)) (k + 1) (stage_after (bytes_at s k) t)
  unfolding stages_from
  turn k t h = let e : n - k ≡ suc (n - (k + 1)) = omega arith in rw e

  steps_turn : (k : ℕ) (t : Stage) → k < n
      → steps_from s (n - k) k t ≡ item_steps (bytes_at s k) t + steps_from s (n - (k + 1)) (k + 1) (stage_after (bytes_at s k) t)
  unfolding steps_from
  steps_turn k t h = let e : n - k ≡ suc (n - (k + 1)) = omega arith in rw e

  module _ {state : Canvas} {px : List ℕ} {scratch : List Float} {steps k : ℕ} (r : Run state px scratch steps k) (h : k < n) where
    abbrev b : List ℕ
    b = bytes_at s k

    abbrev t : Stage
    t = stage state px scratch

    next : (c : Canvas) (px' : List ℕ) (scratch' : List Float) (m : ℕ) → stage c px' scratch' ≡ stage_after b t → m ≡ item_steps b t
        → length px' ≡ length px → length scratch' ≡ length scratch → Run c px' scratch' (steps + m) (k + 1)
    next c px' scratch' m e q lp ls =
        record {
          rest = rw e (sym (turn k t h) ∙ r.rest);
          counts = omega (arith, on, q, steps_turn k t h, r.counts);
          few = omega (arith, item_few b t, q, r.few);
          within = omega arith;
          px_length = lp ∙ r.px_length;
          scratch_length = ls ∙ r.scratch_length;
        }
      where
        on : steps_from s (n - (k + 1)) (k + 1) (stage c px' scratch') ≡ steps_from s (n - (k + 1)) (k + 1) (stage_after b t)
        on = ap (λ (u : Stage). steps_from s (n - (k + 1)) (k + 1) u) e

    pub run_shape : {px' : List ℕ} {scratch' : List Float} {m : ℕ} → is_shape (item_in b) ≡ true → DrewItem b state px scratch px' scratch' m
        → length px' ≡ length px → length scratch' ≡ length scratch → Run state px' scratch' (steps + m) (k + 1)
    unfolding stage_after
    run_shape {px'} {scratch'} {m} i d lp ls =
        next state px' scratch' m (rw (d.paints, d.clears, shape_leaves b (item_of b) state i)) d.counts lp ls

    pub run_other : is_shape (item_in b) ≡ false → Run (state_after (item_of b) state) px scratch steps (k + 1)
    unfolding stage_after item_steps
    run_other i =
        let o = idle b (item_of b) state px scratch i in
        rw add-zero at (next (state_after (item_of b) state) px scratch 0 (rw (o.px_left, o.scratch_left)) (sym o.no_step) refl refl)

  pub run_end : {state : Canvas} {px : List ℕ} {scratch : List Float} {steps k : ℕ} → Run state px scratch steps k → n ≤ k
      → let all = stages_from s n 0 (stage state₀ px₀ scratch₀) in
      Left all.px all.scratch (steps_from s n 0 (stage state₀ px₀ scratch₀)) px scratch steps
  unfolding stages_from steps_from
  run_end {state} {px} {scratch} {steps} {k} r h =
      let e : n - k ≡ 0 = omega arith in
      let same : stage state px scratch ≡ stages_from s n 0 (stage state₀ px₀ scratch₀) = rw e at r.rest in
      let sum : steps + 0 ≡ steps_from s n 0 (stage state₀ px₀ scratch₀) = rw e at r.counts in
      record { paints = ap (λ (t : Stage). t.px) same; clears = ap (λ (t : Stage). t.scratch) same; counts = omega (arith, sum) }
