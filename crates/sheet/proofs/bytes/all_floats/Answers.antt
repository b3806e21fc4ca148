-- `sheet::bytes::all_floats` meets its contract. Assumes nothing.
use native.Mathlib.Nat.{add-zero, sub-zero}
use Prim.Native.Nat.{◌+◌, ◌-◌, ◌*◌}
use mathlib.Core.Path.{sym, ◌∙◌}
use native.Mathlib.Omega.{arith}
use Rattle.sheet.specs.Bytes.{float_ok_at}
use Rattle.sheet.proofs.Places.{all_stop, all_turn, all_done}
use Rattle.sheet.proofs.bytes.all_floats.Goals as goal

pub loop-i-init : goal.loop-i-init
loop-i-init c = (omega arith, simp (add-zero, sub-zero))

pub returns-then-not-float_ok : goal.returns-then-not-float_ok
returns-then-not-float_ok c =
    let a = c.args in
    let l = c.loop-i in
    sym (all_stop (float_ok_at a.s.now) 4 (a.at + 4 * l.i) (a.n - l.i) (omega arith) (rw (← c.f32_at.ensures) (sym c.float_ok.ensures ∙ c.if-not-float_ok.true))) ∙ l.invariant.1

pub loop-i-preserved : goal.loop-i-preserved
loop-i-preserved c =
    let a = c.args in
    let l = c.loop-i in
    (omega arith, sym (all_turn (float_ok_at a.s.now) 4 (a.at + 4 * l.i) (a.n - l.i) (a.at + 4 * (l.i + 1)) (a.n - (l.i + 1)) (omega arith) (omega arith) (rw (← c.f32_at.ensures) (sym c.float_ok.ensures ∙ c.if-not-float_ok.false))) ∙ l.invariant.1)

pub returns : goal.returns
returns c =
    let a = c.args in
    let l = c.loop-i in
    sym (all_done (float_ok_at a.s.now) 4 (a.at + 4 * l.i) (a.n - l.i) (omega arith)) ∙ l.invariant.1
