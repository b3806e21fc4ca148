-- `sheet::check::check_items` meets its contract. Assumes nothing.
use Prim.Native.Nat.{◌+◌, ◌-◌}
use mathlib.Core.Path.{sym, ◌∙◌}
use Rattle.std.proofs.Common.{rules}
use native.Mathlib.Omega.{arith}
use native.Mathlib.Nat.{sub-zero}
use Rattle.sheet.proofs.Runs.{items_refused, items_turn, items_done, depth_grows}
use Rattle.sheet.proofs.check.check_items.Goals as goal

pub loop-k-init : goal.loop-k-init
loop-k-init c = (omega arith, omega arith, rw sub-zero)

pub returns-in_err-check_at : goal.returns-in_err-check_at
returns-in_err-check_at c =
    let s = c.args.s.now in
    let l = c.loop-k in
    let stop = items_refused s (c.u16_at-k-end.result - l.k) l.k l.depth c.in_err-check_at.field-0.0 (omega arith) c.in_err-check_at.ensures in
    rw (← c.u16_at-k-end.ensures.0, ← l.invariant.2, stop) (search rules)

pub loop-k-preserved : goal.loop-k-preserved
loop-k-preserved c =
    let s = c.args.s.now in
    let l = c.loop-k in
    let turn = items_turn s (c.u16_at-k-end.result - l.k) l.k l.depth (c.u16_at-k-end.result - (l.k + 1)) (omega arith) c.in_ok-check_at.ensures in
    (omega arith, omega (arith, c.depth_at-depth.ensures, depth_grows s l.k l.depth), rw c.depth_at-depth.ensures (sym turn ∙ l.invariant.2))

pub returns : goal.returns
returns c =
    let s = c.args.s.now in
    let l = c.loop-k in
    rw (← c.u16_at-k-end.ensures.0) (sym (items_done s (c.u16_at-k-end.result - l.k) l.k l.depth (omega arith)) ∙ l.invariant.2)
