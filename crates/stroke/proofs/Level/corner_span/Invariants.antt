-- `Level::corner_span` meets its contract. The columns before x are drawn, as far as the span goes. Assumes nothing.
use Rattle.std.proofs.Common.{◌-◌, min}
use Rattle.draw.proofs.Loops.{InRow}
use Rattle.stroke.specs.Stroke.{band_ink}
use Rattle.stroke.proofs.Level.corner_span.Given as goal

abbrev pub invariant-loop-x : goal.invariant-loop-x
invariant-loop-x l =
    let row = l.row in
    InRow row.pitch (band_ink l.self.o.s l.self.o.width l.self.o.c) row.y row.x0 row.x1 l.initial.px l.px l.n (min l.x row.x1)

abbrev pub decreases-loop-x : goal.decreases-loop-x
decreases-loop-x l = l.row.x1 - l.x
