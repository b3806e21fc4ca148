-- `stroke::outline_area` meets its contract. Assumes nothing.
use Rattle.std.proofs.Common.{rules}
use Rattle.draw.proofs.Loops.{drew_none}
use Rattle.draw.proofs.Rows.{none_down}
use Rattle.stroke.specs.Stroke.{outline_ink}
use Rattle.stroke.specs.Rows.{column_cover}
use Rattle.stroke.proofs.outline_area.Goals as goal

pub draw-requires-clause-draws : goal.draw-requires-clause-draws
draw-requires-clause-draws c =
    let a = c.args in
    let k = c.fill_in.ensures (column_cover a.s a.width) (λ x q u v e. search rules) in
    (outline_ink a.s a.width a.c, λ px y n px' u v w e. search rules)

pub returns : goal.returns
returns c =
    let a = c.args in
    let k = c.fill_in.ensures (column_cover a.s a.width) (λ x q u v e. search rules) in
    c.draw.ensures (outline_ink a.s a.width a.c) (λ px y n px' u v w e. search rules)

pub returns-then-b : goal.returns-then-b
returns-then-b c =
    let a = c.args in
    drew_none (none_down a.pitch (outline_ink a.s a.width a.c) _ a.b c.if-b.true)
