-- `line::draw_lines` meets its contract. The lines from point i - 1 on, drawn on px as it is, give what all lines give from the start. Assumes nothing.
use Rattle.line.proofs.Joints.{Lines}
use Rattle.line.proofs.draw_lines.Given as goal

abbrev pub invariant-loop-i : goal.invariant-loop-i
invariant-loop-i l = Lines l.pitch l.clip l.pts l.width l.color l.initial.px l.px l.n l.i
