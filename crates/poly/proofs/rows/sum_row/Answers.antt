-- `poly::rows::sum_row` meets its contract. Assumes nothing.
use Rattle.std.proofs.Common.{rules}
use Rattle.paints.specs.Paints.{paint_at}
use Rattle.paints.specs.declared.Paint.TheVariants.{Solid, Linear}
use Rattle.poly.specs.Rooms.{colour_in}
use Rattle.poly.proofs.rows.sum_row.Goals as goal

pub returns-in-Solid : goal.returns-in-Solid
unfolding paint_at
returns-in-Solid c =
    rw c.in-Solid.is (c.ink_row.ensures (colour_in (Solid c.in-Solid.c) c.args.row.y) (λ x p cv q _ _ e. search rules))

pub returns-in-Linear : goal.returns-in-Linear
unfolding paint_at
returns-in-Linear c =
    let v = c.in-Linear in
    rw v.is (c.ink_row-in-Linear.ensures (colour_in (Linear v.p0 v.p1 v.c0 v.c1) c.args.row.y) (λ x p cv q _ _ e. search rules))

pub returns-in_default : goal.returns-in_default
returns-in_default c =
    c.ink_row-in_default.ensures (colour_in c.args.paint c.args.row.y) (λ x p cv q _ _ e. search rules)
