-- `accum::accum::bump_run` meets its contract. The words before w have had v added. Assumes nothing.
use mathlib.Core.Path.{◌≡◌, refl, ap, sym, ◌∙◌}
use mathlib.Core.List.{List}
use Prim.Native.Nat.{ℕ, ◌-◌}
use native.Mathlib.Nat.{zero-add}
use native.Mathlib.Omega.{arith}
use lib.ListN.{length, take, drop}
use lib.Ieee.{Float}
use borrow.Rule.Slice.PartMut.{put_mid, mid_len}
use Rattle.accum.specs.Accum.{bump_at, bump_run}
use Rattle.accum.proofs.Words.{bump_run_more, bump_part}
use Rattle.accum.proofs.accum.bump_run.Goals as goal

pub loop-w-init : goal.loop-w-init
unfolding bump_run
loop-w-init c = refl

pub loop-w-preserved : goal.loop-w-preserved
loop-w-preserved c =
    let at = c.args in
    let part = take (at.e - at.i) (drop at.i at.a.now) in
    ap (λ (t : List Float). bump_at t c.loop-w.w-index at.v) c.loop-w.invariant
    ∙ sym (rw zero-add at (bump_run_more part 0 c.loop-w.w-index at.v))

pub returns : goal.returns
returns c =
    let at = c.args in
    let part = take (at.e - at.i) (drop at.i at.a.now) in
    let long : length part ≡ at.e - at.i = mid_len at.i at.e at.a.now c.requires.1 in
    let n : c.loop-w.w-index ≡ at.e - at.i = omega arith in
    ap (λ (t : List Float). put_mid at.i (at.e - at.i) at.a.now t) c.loop-w.invariant
    ∙ bump_part at.a.now at.i (at.e - at.i) at.v c.loop-w.w-index (omega arith) (omega arith)
    ∙ ap (λ (k : ℕ). bump_run at.a.now at.i k at.v) n
