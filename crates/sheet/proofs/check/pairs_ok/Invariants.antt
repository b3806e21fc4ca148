-- `sheet::check::pairs_ok` meets its contract. Assumes nothing.
use Prim.Native.Nat.{◌+◌, ◌-◌, ◌*◌, ◌≤◌}
use mathlib.Core.Path.{◌≡◌}
use Rattle.sheet.specs.Check.{pairs_from}
use Rattle.sheet.proofs.check.pairs_ok.Given as goal

abbrev pub invariant-loop-k : goal.invariant-loop-k
invariant-loop-k l = (l.k ≤ l.n) × (l.at ≤ l.initial.at + 65536 * l.k) × (pairs_from l.s (l.n - l.k) l.k l.at ≡ pairs_from l.s l.n 0 l.initial.at)

abbrev pub decreases-loop-k : goal.decreases-loop-k
decreases-loop-k l = l.n - l.k
