-- `mathf::root::whole_root` meets its contract. The loop's invariant: the root lies from r up to, and without, r + 2 ^ i. Assumes nothing.
use Rattle.std.proofs.Common.{◌+◌, ◌*◌, ◌^◌, ◌<◌, ◌≤◌}
use Rattle.mathf.proofs.root.whole_root.Given as goal

abbrev pub invariant-loop-i : goal.invariant-loop-i
invariant-loop-i l = (l.i ≤ 24) × (l.r + 2 ^ l.i ≤ 2 ^ 24) × (l.r * l.r ≤ l.m) × (l.m < (l.r + 2 ^ l.i) * (l.r + 2 ^ l.i))
