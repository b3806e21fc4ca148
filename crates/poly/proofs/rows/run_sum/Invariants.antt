-- `poly::rows::run_sum` meets its contract. The words before v are in the sum. Assumes nothing.
use Rattle.std.proofs.Common.{◌≡◌}
use Rattle.poly.specs.Poly.{run_sum}
use Rattle.poly.proofs.rows.run_sum.Given as goal

abbrev pub invariant-loop-v : goal.invariant-loop-v
invariant-loop-v l = l.a ≡ run_sum l.acc l.i l.v-index
