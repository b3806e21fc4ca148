-- `poly::outline::edges` meets its contract. The first i edges are in the accumulator. Assumes nothing.
use mathlib.Core.Path.{◌≡◌}
use Prim.Native.Nat.{◌≤◌}
use lib.ListN.{length}
use Rattle.poly.specs.Poly.{edges_accum}
use Rattle.poly.proofs.outline.edges.Given as goal

abbrev pub invariant-loop-i : goal.invariant-loop-i
invariant-loop-i l = (l.i ≤ l.n) × (length l.acc ≡ length l.initial.acc) × (l.acc ≡ edges_accum l.initial.acc l.pts l.g l.i)
