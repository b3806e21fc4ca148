-- `Shade::shade_row` meets its contract. Assumes nothing.
use Rattle.draw.proofs.Loops.{drew_as}
use Rattle.draw.proofs.Rows.{row_same}
use Rattle.shadow.proofs.Parts.{straight_row, corner_row_lem}
use Rattle.shadow.proofs.Shade.shade_row.Goals as goal

pub returns-then-qy : goal.returns-then-qy
returns-then-qy c =
    let a = c.args in
    let r = a.row in
    let e = rw (c.fabs-dy.ensures, c.centre.ensures) at c.if-qy.true in
    drew_as (rw (c.fabs-dy.ensures, c.centre.ensures) at c.straight_row.ensures)
    (row_same r.pitch _ _ _ r.x0 r.x1 r.y (λ x p l h. straight_row a.self.now a.skip r.y e x p))

pub returns-else-qy : goal.returns-else-qy
returns-else-qy c =
    let a = c.args in
    let r = a.row in
    let e = rw (c.fabs-dy.ensures, c.centre.ensures) at c.if-qy.false in
    drew_as (rw (c.fabs-dy.ensures, c.centre.ensures) at c.corner_row.ensures)
    (row_same r.pitch _ _ _ r.x0 r.x1 r.y (λ x p l h. corner_row_lem a.self.now a.skip r.y e x p))
