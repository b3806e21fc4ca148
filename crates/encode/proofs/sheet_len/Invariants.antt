-- `encode::sheet_len` meets its contract: the bytes counted and those of the items that are left make the sheet. Assumes nothing.
use Rattle.std.proofs.Common.{◌≡◌, ℕ, List, map, ◌+◌, ◌*◌, ◌≤◌, length}
use Rattle.encode.specs.Encode.{joined}
use Rattle.encode.specs.Items.{Gives}
use Rattle.encode.proofs.Turns.{items_from}
use Rattle.encode.proofs.sheet_len.Given as goal

abbrev pub invariant-loop-x : goal.invariant-loop-x
invariant-loop-x g l =
    (l.len ≤ 12 + 4 * length l.items + 60000 * l.x-index)
    × ((f : g.row.T.Denot → List ℕ) → Gives (goal.F-post g l.bytes_of) f
    → l.len + length (joined (items_from f l.items l.x-index)) ≡ 12 + 4 * length l.items + length (joined (map f l.items)))
