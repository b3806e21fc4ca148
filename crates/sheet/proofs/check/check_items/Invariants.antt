-- `sheet::check::check_items` meets its contract. Assumes nothing.
use Prim.Native.Nat.{◌-◌, ◌≤◌}
use mathlib.Core.Path.{◌≡◌}
use Rattle.sheet.specs.Check.{items_from}
use Rattle.sheet.proofs.check.check_items.Given as goal

abbrev pub invariant-loop-k : goal.invariant-loop-k
invariant-loop-k l = (l.k ≤ l.k-end) × (l.depth ≤ l.k) × (items_from l.s (l.k-end - l.k) l.k l.depth ≡ items_from l.s l.k-end 0 0)

abbrev pub decreases-loop-k : goal.decreases-loop-k
decreases-loop-k l = l.k-end - l.k
