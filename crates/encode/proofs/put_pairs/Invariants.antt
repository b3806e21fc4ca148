-- `encode::put_pairs` meets its contract: the pairs that are left, put after those that are put, make all. Assumes nothing.
use Rattle.std.proofs.Common.{◌≡◌, ℕ, List, map, ◌+◌, ◌*◌, ◌≤◌, length}
use Rattle.encode.specs.Encode.{pairs}
use Rattle.encode.specs.Placed.{placed}
use Rattle.encode.specs.Items.{Gives}
use Rattle.encode.proofs.Turns.{items_from}
use Rattle.encode.proofs.put_pairs.Given as goal

abbrev pub invariant-loop-i : goal.invariant-loop-i
invariant-loop-i g l =
    (l.at ≤ 12 + 4 * length l.items + 60000 * l.i)
    × ((f : g.row.T.Denot → List ℕ) → Gives (goal.F-post g l.bytes_of) f → 12 + 4 * length l.items ≤ length l.initial.buf
    → placed 12 (pairs (12 + 4 * length l.items) (map f l.items)) l.initial.buf ≡ placed (12 + 4 * l.i) (pairs l.at (items_from f l.items l.i)) l.buf)
