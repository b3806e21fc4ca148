-- `sheet::bytes::all_zero` meets its contract. Assumes nothing.
use native.Mathlib.Nat.{add-zero, sub-zero}
use borrow.Author.Tests.{ne_eqb, eq-eqb}
use Prim.Native.Nat.{◌+◌, ◌-◌}
use mathlib.Core.Path.{sym, ◌∙◌}
use native.Mathlib.Omega.{arith}
use Rattle.sheet.specs.Bytes.{zero_at}
use Rattle.sheet.proofs.Places.{all_stop, all_turn, all_done}
use Rattle.sheet.proofs.bytes.all_zero.Goals as goal

pub loop-i-init : goal.loop-i-init
loop-i-init c = (omega arith, simp (add-zero, sub-zero))

pub returns-then-byte_at-ne0 : goal.returns-then-byte_at-ne0
returns-then-byte_at-ne0 c =
    let a = c.args in
    let l = c.loop-i in
    sym (all_stop (zero_at a.s.now) 1 (a.at + l.i) (a.n - l.i) (omega arith) (ne_eqb _ 0 (rw c.byte_at.ensures at c.if-byte_at-ne0.true))) ∙ l.invariant.1

pub loop-i-preserved : goal.loop-i-preserved
loop-i-preserved c =
    let a = c.args in
    let l = c.loop-i in
    (omega arith, sym (all_turn (zero_at a.s.now) 1 (a.at + l.i) (a.n - l.i) (a.at + (l.i + 1)) (a.n - (l.i + 1)) (omega arith) (omega arith) (eq-eqb _ 0 (rw c.byte_at.ensures at c.if-byte_at-ne0.false))) ∙ l.invariant.1)

pub returns : goal.returns
returns c =
    let a = c.args in
    let l = c.loop-i in
    sym (all_done (zero_at a.s.now) 1 (a.at + l.i) (a.n - l.i) (omega arith)) ∙ l.invariant.1
