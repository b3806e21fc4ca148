-- `line::draw_lines` meets its contract. The lines from point i - 1 on, drawn on px as it is, give what all lines give from the start. Assumes nothing.
use Rattle.line.proofs.Joints.{lines_begin, lines_next, lines_end}
use Rattle.line.proofs.draw_lines.Goals as goal

pub loop-i-init : goal.loop-i-init
loop-i-init c = lines_begin _ _ _ _ _ _

pub loop-i-preserved : goal.loop-i-preserved
loop-i-preserved c =
    lines_next _ _ _ _ _ _ c.loop-i.invariant c.loop-i-test.true (rw (c.point.ensures, c.point-in-loop-i.ensures) at c.draw_line-n.ensures)

pub returns : goal.returns
returns c = lines_end _ _ _ _ _ _ c.requires.pts_len_bound c.loop-i.invariant c.loop-i-test.false
