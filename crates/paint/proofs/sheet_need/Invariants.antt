-- `paint::sheet_need` meets its contract. The greatest need so far and of what is left is the whole. Assumes nothing.
use Prim.Native.Nat.{◌-◌, max}
use mathlib.Core.Path.{◌≡◌}
use Rattle.sheet.specs.Check.{count_of}
use Rattle.items.specs.Format.{needs, items_from}
use Rattle.items.proofs.Turns.{ItemsOf}
use Rattle.paint.specs.Paint.{need_in}
use Rattle.paint.proofs.sheet_need.Given as goal

abbrev pub invariant-loop-b : goal.invariant-loop-b
invariant-loop-b l =
    let it = l.b-iterator in
    ItemsOf l.s it × (max l.most (needs (items_from l.s (count_of l.s - it.next) it.next)) ≡ need_in l.s)
