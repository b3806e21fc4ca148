-- `compare::changed_in` meets its contract. What the items seen so far tell with those that are left is what all of them tell. Assumes nothing.
use Prim.Native.Nat.{◌-◌, ◌≤◌}
use mathlib.Core.Path.{◌≡◌}
use Rattle.std.specs.Iterator.Adapters.{zip_first, zip_second}
use Rattle.sheet.specs.Check.{count_of}
use Rattle.items.proofs.Turns.{ItemsOf}
use Rattle.clips.specs.States.{start_of}
use Rattle.compare.specs.Compare.{change_from, changed_by}
use Rattle.compare.proofs.Changes.{told_after}
use Rattle.compare.proofs.changed_in.Given as goal

abbrev pub invariant-loop-a : goal.invariant-loop-a
invariant-loop-a l =
    let x = zip_first l.a-iterator in
    let y = zip_second l.a-iterator in
    let n = count_of l.new in
    ItemsOf l.old x
    × ItemsOf l.new y
    × (x.next ≡ y.next)
    × (l.count ≤ y.next)
    × (told_after l.canvas l.count l.area (change_from l.old l.new (n - y.next) y.next l.state) ≡ changed_by l.canvas (change_from l.old l.new n 0 (start_of l.new)))
