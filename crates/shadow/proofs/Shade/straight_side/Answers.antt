-- `Shade::straight_side` meets its contract. Assumes nothing.
use Rattle.shadow.specs.Shadow.{straight_side}
use Rattle.shadow.specs.Spans.{column_alpha}
use Rattle.shadow.proofs.Shade.straight_side.Goals as goal

pub returns-then-sdx-sdy : goal.returns-then-sdx-sdy
unfolding straight_side column_alpha
returns-then-sdx-sdy c =
    let e = rw (c.fabs.ensures, c.centre.ensures) at c.if-sdx-sdy.true in
    λ col row. rw e col

pub returns-else-sdx-sdy : goal.returns-else-sdx-sdy
unfolding straight_side column_alpha
returns-else-sdx-sdy c =
    let e = rw (c.fabs.ensures, c.centre.ensures) at c.if-sdx-sdy.false in
    λ col row. rw e row
