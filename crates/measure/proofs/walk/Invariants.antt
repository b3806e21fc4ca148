-- `measure::walk` meets its contract. What was taken so far, with what the items that are left take, is what the sheet takes. Assumes nothing.
use Rattle.sheet.specs.Check.{count_of}
use Rattle.items.proofs.Turns.{ItemsOf}
use Rattle.measure.proofs.Walks.{Walking}
use Rattle.measure.proofs.walk.Given as goal

abbrev pub invariant-loop-b : goal.invariant-loop-b
invariant-loop-b l = ItemsOf l.s l.b-iterator × Walking l.s (count_of l.s) l.canvas l.words l.most l.pixels l.b-iterator.next
