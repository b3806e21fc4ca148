-- `leaves::counting::count` is safe and ends: no count is above the number of cases passed. Assumes nothing.
use Rattle.std.proofs.Common.{◌<◌, ◌≤◌}
use Rattle.leaves.proofs.counting.count.Given as goal

abbrev pub invariant-loop-i : goal.invariant-loop-i
invariant-loop-i l = (l.i ≤ l.n) × (l.n < 65536) × (l.tally.ran ≤ l.i) × (l.tally.differ ≤ l.i)
