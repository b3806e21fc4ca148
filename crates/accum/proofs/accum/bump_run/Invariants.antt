-- `accum::accum::bump_run` meets its contract. The words before w have had v added. Assumes nothing.
use Rattle.std.proofs.Common.{◌≡◌, ◌-◌, take, drop}
use Rattle.accum.specs.Accum.{bump_run}
use Rattle.accum.proofs.accum.bump_run.Given as goal

abbrev pub invariant-loop-w : goal.invariant-loop-w
invariant-loop-w l = l.w-items ≡ bump_run (take (l.e - l.i) (drop l.i l.fn.a)) 0 l.w-index l.v
