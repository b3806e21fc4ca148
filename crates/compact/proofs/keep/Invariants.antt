-- `compact::keep` meets its contract. The items chosen so far, and then those that are left and stay, are all that stay. Assumes nothing.
use mathlib.Core.Path.{◌≡◌}
use Rattle.std.specs.Iterator.Adapters.{enumerate_source, enumerate_count}
use Rattle.sheet.specs.Check.{count_of}
use Rattle.items.proofs.Turns.{ItemsOf}
use Rattle.compact.proofs.Walks.{Keeping}
use Rattle.compact.proofs.keep.Given as goal

abbrev pub invariant-loop-k : goal.invariant-loop-k
invariant-loop-k l =
    let it = enumerate_source l.k-iterator in
    ItemsOf l.s it × (enumerate_count l.k-iterator ≡ it.next) × Keeping l.s (count_of l.s) l.kept l.canvas l.count it.next
