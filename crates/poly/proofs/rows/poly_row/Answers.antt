-- `poly::rows::poly_row` meets its contract. Assumes nothing.
use mathlib.Core.Path.{◌≡◌, ◌∙◌}
use Prim.Native.Nat.{◌+◌, ◌*◌}
use native.Mathlib.Omega.{arith}
use Rattle.draw.proofs.Loops.{drew_as}
use Rattle.draw.proofs.Rows.{row_same}
use Rattle.paints.proofs.Colours.{row_colour}
use Rattle.bounds.proofs.Signs.{back}
use Rattle.poly.specs.Poly.{offset_of, ink_in}
use Rattle.poly.specs.Rooms.{colour_in, ink_from}
use Rattle.poly.proofs.Spans.{ink_in_lem}
use Rattle.poly.proofs.rows.poly_row.Goals.{After-offset, After-offset-skip}
use Rattle.poly.proofs.rows.poly_row.Goals as goal

-- the row in the box, and the columns before its first
row_at : (o : After-offset) → o.offset.result ≡ offset_of o.args.row.y o.args.g.oy
row_at o =
    o.offset.ensures ∙ rw (back o.args.g.oy (omega (arith, o.requires.room.1.top)))

skip_at : (p : After-offset-skip) → p.offset-skip.result ≡ offset_of p.args.row.x0 p.args.g.ox
skip_at p =
    p.offset-skip.ensures ∙ rw (back p.args.g.ox (omega (arith, p.requires.room.1.left)))

pub returns : goal.returns
returns c =
    let at = c.args in
    let acc = at.acc.now in
    let row = at.row in
    let ls = offset_of row.y at.g.oy * (at.g.bw + 2) in
    let skip = offset_of row.x0 at.g.ox in
    let here = c.in_row.result in
    drew_as c.sum_row.ensures
    (rw (skip_at (goal.at.returns c).After-offset-skip, row_at (goal.at.returns c).After-offset)
    (row_same row.pitch (ink_from acc ls skip row.x0 (colour_in here row.y)) (ink_in acc at.g at.paint) at.px.now row.x0 row.x1 row.y (λ x q l u. ink_in_lem acc at.g here at.paint row.x0 row.y x q c.requires.room.2.from l (λ k. rw (c.in_row.ensures, c.centre.ensures) (row_colour at.paint k _)))))
