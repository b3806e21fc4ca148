-- `bounds::origin` meets its contract. Assumes nothing.
use Prim.Native.Nat.{◌≤◌}
use native.Mathlib.Omega.{arith}
use lib.IntN.{pos, nat_abs, ◌-ℤ◌}
use Rattle.bounds.specs.Bounds.{origin_of}
use Rattle.bounds.proofs.Signs.{back, difference_small}
use Rattle.bounds.proofs.origin.Goals.{After-to_i32}
use Rattle.bounds.proofs.origin.Goals as goal

whole : (c : After-to_i32) → nat_abs c.to_i32.result ≤ 8192
whole c = rw (c.to_i32.ensures, c.floor.ensures) c.requires

pub returns-clause-value : goal.returns-clause-value
unfolding origin_of
returns-clause-value c =
    let z = c.to_i32.result in
    rw (back z (omega (arith, whole c)), back (z -ℤ pos 1) (difference_small z (pos 1) (omega (arith, whole c)) (omega arith)), c.to_i32.ensures, c.floor.ensures)
