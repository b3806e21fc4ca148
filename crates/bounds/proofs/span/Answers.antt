-- `bounds::span` meets its contract. Assumes nothing.
use mathlib.Core.Path.{◌∙◌}
use Prim.Native.Nat.{◌≤◌}
use native.Mathlib.Omega.{arith}
use lib.IntN.{pos, nat_abs, ◌+ℤ◌, ◌-ℤ◌}
use Rattle.mathf.proofs.Ints.{sum_size}
use Rattle.bounds.specs.Bounds.{span_of}
use Rattle.bounds.proofs.Signs.{back, difference_small}
use Rattle.bounds.proofs.span.Goals.{After-to_i32}
use Rattle.bounds.proofs.span.Goals as goal

-- the ceiling, and one more
whole : (c : After-to_i32) → (nat_abs c.to_i32.result ≤ 8192) × (nat_abs (c.to_i32.result +ℤ pos 1) ≤ 8193)
whole c =
    let h : nat_abs c.to_i32.result ≤ 8192 = rw (c.to_i32.ensures, c.ceil.ensures) c.requires.0 in
    (h, let s = sum_size c.to_i32.result (pos 1) in omega (arith, s))

pub returns : goal.returns
unfolding span_of
returns c =
    let z = c.to_i32.result in
    let o = c.args.origin in
    let k = c.requires.1 in
    c.nat_of.ensures
    ∙ rw (back z (omega (arith, whole (goal.at.returns c).After-to_i32)), back (z +ℤ pos 1) (omega (arith, whole (goal.at.returns c).After-to_i32)), back o (omega (arith, k)), back (z +ℤ pos 1 -ℤ o) (difference_small (z +ℤ pos 1) o (omega (arith, whole (goal.at.returns c).After-to_i32)) (omega (arith, k))), c.to_i32.ensures, c.ceil.ensures)
