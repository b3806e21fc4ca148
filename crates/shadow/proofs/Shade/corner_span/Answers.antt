-- `Shade::corner_span` meets its contract. The columns before x are drawn, or all. Assumes nothing.
use Rattle.std.proofs.Common.{arith, refl, ◌≡◌, ◌+◌}
use Rattle.draw.proofs.Loops.{InRow, row_start_lem, row_span, row_end}
use Rattle.shadow.specs.Spans.{corner_ink}
use Rattle.shadow.proofs.Shade.corner_span.Goals.{After-corner_part-n}
use Rattle.shadow.proofs.Shade.corner_span.Goals as goal

pub loop-x-init : goal.loop-x-init
loop-x-init c =
    let a = c.args in
    (a.row.x0, omega arith, row_start_lem _ (corner_ink a.self.now a.qy) _ _ _ _ c.requires.order)

-- a turn draws the columns from x up to the end that it took
next : (c : After-corner_part-n) → let a = c.args in
    InRow a.row.pitch (corner_ink a.self.now a.qy) a.row.y a.row.x0 a.row.x1 a.px.now c.corner_part-n.new.px (c.loop-x.n + c.corner_part-n.result) c.min.result
next c =
    let i = c.loop-x.invariant in
    let here : i.0 ≡ c.loop-x.x = omega (arith, i.1) in
    row_span (corner_ink c.args.self.now c.args.qy) _ _ (rw here at i.2) (omega arith) (omega arith) c.corner_part-n.ensures (λ j p l h. refl)

pub loop-x-preserved : goal.loop-x-preserved
loop-x-preserved c = (c.min.result, omega arith, next (goal.at.loop-x-preserved c).After-corner_part-n)

pub returns-2 : goal.returns-2
returns-2 c = row_end (next (goal.at.returns-2 c).After-corner_part-n) (omega arith)
