-- `sheet::check::pairs_ok` meets its contract. Assumes nothing.
use Prim.Native.Nat.{◌+◌, ◌-◌}
use mathlib.Core.Path.{sym, ◌∙◌}
use native.Mathlib.Omega.{arith}
use native.Mathlib.Nat.{sub-zero}
use Rattle.sheet.specs.Check.{pairs_ok}
use Rattle.sheet.proofs.Runs.{pairs_stop, pairs_turn, pairs_done}
use Rattle.sheet.proofs.check.pairs_ok.Goals as goal

pub loop-k-init : goal.loop-k-init
loop-k-init c = (omega arith, omega arith, rw sub-zero)

pub returns-then-u16_at-at : goal.returns-then-u16_at-at
unfolding pairs_ok
returns-then-u16_at-at c =
    let s = c.args.s.now in
    let l = c.loop-k in
    rw (← c.u16_at-n.ensures.0) (sym (pairs_stop s (c.u16_at-n.result - l.k) l.k l.at (omega arith) (rw c.u16_at.ensures.0 at c.if-u16_at-at.true)) ∙ l.invariant.2)

pub loop-k-preserved : goal.loop-k-preserved
loop-k-preserved c =
    let s = c.args.s.now in
    let l = c.loop-k in
    let turn = pairs_turn s (c.u16_at-n.result - l.k) l.k l.at (c.u16_at-n.result - (l.k + 1)) (omega arith) (rw c.u16_at.ensures.0 at c.if-u16_at-at.false) in
    (omega arith, omega arith, rw c.u16_at-at.ensures.0 (sym turn ∙ l.invariant.2))

pub returns : goal.returns
unfolding pairs_ok
returns c =
    let s = c.args.s.now in
    let l = c.loop-k in
    rw (← c.u16_at-n.ensures.0) (sym (pairs_done s (c.u16_at-n.result - l.k) l.k l.at (omega arith)) ∙ l.invariant.2)
