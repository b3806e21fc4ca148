-- `encode::put_items` meets its contract: the items that are left, put after those that are put, make all. Assumes nothing.
use Rattle.std.proofs.Common.{◌≡◌, ℕ, List, map, ◌+◌, ◌*◌, ◌≤◌, length}
use Rattle.encode.specs.Encode.{joined}
use Rattle.encode.specs.Placed.{placed}
use Rattle.encode.specs.Items.{Gives}
use Rattle.encode.proofs.Turns.{items_from}
use Rattle.encode.proofs.put_items.Given as goal

abbrev pub invariant-loop-x : goal.invariant-loop-x
invariant-loop-x g l =
    (l.at ≤ 12 + 4 * length l.items + 60000 * l.x-index)
    × ((f : g.row.T.Denot → List ℕ) → Gives (goal.F-post g l.bytes_of) f
    → l.at + length (joined (items_from f l.items l.x-index)) ≡ 12 + 4 * length l.items + length (joined (map f l.items)))
    × ((f : g.row.T.Denot → List ℕ) → Gives (goal.F-post g l.bytes_of) f
    → 12 + 4 * length l.items + length (joined (map f l.items)) ≤ length l.initial.buf
    → placed (12 + 4 * length l.items) (joined (map f l.items)) l.initial.buf ≡ placed l.at (joined (items_from f l.items l.x-index)) l.buf)
