-- `render::render` meets its contract: what is drawn so far, drawn on, is the whole. Assumes nothing.
use Rattle.sheet.specs.Check.{count_of}
use Rattle.items.proofs.Turns.{ItemsOf}
use Rattle.render.proofs.Turns.{Run}
use Rattle.render.proofs.render.Given as goal

abbrev pub invariant-loop-b : goal.invariant-loop-b
invariant-loop-b l =
    ItemsOf l.s l.b-iterator × Run l.s (count_of l.s) l.initial.state l.initial.px l.initial.scratch l.state l.px l.scratch l.steps l.b-iterator.next
