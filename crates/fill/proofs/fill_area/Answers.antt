-- `fill::fill_area` meets its contract. Assumes nothing.
use mathlib.Core.Path.{◌∙◌}
use Rattle.std.proofs.Common.{rules}
use Rattle.draw.proofs.Loops.{drew_none}
use Rattle.draw.proofs.Rows.{none_down}
use Rattle.fill.specs.Fill.{fill_ink, round_ink}
use Rattle.fill.proofs.fill_area.Goals as goal

pub returns-then-bb : goal.returns-then-bb
returns-then-bb c =
    let a = c.args in
    drew_none (none_down a.pitch (fill_ink a.rect a.r a.paint) _ a.bb c.if-bb.true)

pub draw-requires-clause-draws : goal.draw-requires-clause-draws
draw-requires-clause-draws c =
    let s = c.of-s.result in
    (round_ink s.rect s.edge.r c.args.paint, λ px y n px' _ _ fits e. search rules)

pub returns : goal.returns
returns c =
    let s = c.of-s.result in
    rw (c.of-s.ensures.0, c.of-s.ensures.1 ∙ c.radius-short.ensures)
    at (c.draw.ensures (round_ink s.rect s.edge.r c.args.paint) (λ px y n px' _ _ fits e. search rules))
