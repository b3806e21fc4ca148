-- `orders::kinds_of` meets its contract. Assumes nothing.
use Prim.Native.Nat.{◌≤◌}
use mathlib.Core.List.{◌++◌, map}
use mathlib.Core.Path.{◌≡◌}
use lib.ListN.{drop}
use Rattle.orders.specs.Kinds.{digit_of, kinds_in}
use Rattle.orders.proofs.Digits.{most}
use Rattle.orders.proofs.kinds_of.Given as goal

abbrev pub invariant-loop-rest : goal.invariant-loop-rest
invariant-loop-rest l =
    (kinds_in l.from l.rest ++ map digit_of (drop l.from l.kinds) ≡ kinds_in 6 l.number) × (l.from ≤ 6) × (l.rest ≤ most l.from)

abbrev pub decreases-loop-rest : goal.decreases-loop-rest
decreases-loop-rest l = l.from
