-- `line::draw_line` meets its contract. Assumes nothing.
use mathlib.Core.Path.{sym, ◌∙◌}
use Rattle.std.proofs.Common.{rules}
use Rattle.draw.specs.Areas.{clip_to}
use Rattle.draw.proofs.Loops.{drew_as, drew_none}
use Rattle.draw.proofs.Rows.{none_down}
use Rattle.draw.proofs.Clips.{drawn_clip}
use Rattle.line.specs.Lines.{line_reach, line_ink, segment_ink}
use Rattle.line.proofs.draw_line.Goals as goal

pub returns-then-bb : goal.returns-then-bb
returns-then-bb c =
    let a = c.args in
    let low = rw (c.clipped-bb.ensures, c.line_reach.ensures) at c.if-bb.true in
    drew_none
    (none_down a.pitch (line_ink a.a a.b a.width a.color) _ (clip_to (line_reach a.a a.b a.width) a.clip) low
    ∙ sym (drawn_clip a.pitch a.clip (line_reach a.a a.b a.width) (line_ink a.a a.b a.width a.color) _))

pub draw-requires-clause-draws : goal.draw-requires-clause-draws
draw-requires-clause-draws c = (segment_ink c.of-s.result.segment c.args.color, λ px y n px' _ _ fits e. search rules)

pub returns : goal.returns
returns c =
    drew_as
    (rw (c.clipped-bb.ensures, c.line_reach.ensures, c.of-s.ensures, c.of.ensures)
    at (c.draw.ensures (segment_ink c.of-s.result.segment c.args.color) (λ px y n px' _ _ fits e. search rules)))
    (sym (drawn_clip _ _ _ _ _))
