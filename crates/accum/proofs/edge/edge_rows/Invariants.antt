-- `accum::edge::edge_rows` meets its contract. The rows from `from` up to y are in the accumulator, and x is where the edge enters row y.
-- Assumes nothing.
use mathlib.Core.Path.{◌≡◌}
use Prim.Native.Nat.{◌+◌, ◌-◌, ◌≤◌}
use lib.ListN.{length}
use Rattle.accum.specs.Lines.{edge_x, edge_rows}
use Rattle.accum.proofs.edge.edge_rows.Given as goal

abbrev pub invariant-loop-y : goal.invariant-loop-y
invariant-loop-y l =
    (l.from ≤ l.y) × (l.y ≤ l.from + (l.to - l.from)) × (length l.a ≡ length l.initial.a) × (l.x ≡ edge_x l.e l.from (l.y - l.from)) × (l.a ≡ edge_rows l.initial.a l.bw l.e l.from (l.y - l.from))
