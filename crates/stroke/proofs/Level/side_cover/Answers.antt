-- `Level::side_cover` meets its contract. Assumes nothing.
use mathlib.Core.Bool.{and-false}
use Rattle.mathf.specs.F32.{f0}
use Rattle.paints.specs.Paints.{corner_sd, rrect_sd}
use Rattle.stroke.specs.Rows.{column_cover}
use Rattle.stroke.proofs.Levels.{not_above}
use Rattle.stroke.proofs.Level.side_cover.Goals as goal

pub returns-then-qx-self : goal.returns-then-qx-self
unfolding rrect_sd corner_sd column_cover
returns-then-qx-self c =
    λ low col.
    let l = c.args.self in
    let e = rw (c.past_sides-qx.ensures, c.centre.ensures) at c.if-qx-self.true in
    rw (← l.past, not_above l.qy f0 low, and-false, e) col

pub returns-else-qx-self : goal.returns-else-qx-self
unfolding rrect_sd corner_sd column_cover
returns-else-qx-self c =
    λ low col.
    let l = c.args.self in
    let e = rw (c.past_sides-qx.ensures, c.centre.ensures) at c.if-qx-self.false in
    rw (← l.past, not_above l.qy f0 low, and-false, e) l.covered
