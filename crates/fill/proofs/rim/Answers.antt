-- `fill::rim` meets its contract. Assumes nothing.
use Rattle.std.proofs.Common.{rules}
use Rattle.color.proofs.Overs.{over_c_idle}
use Rattle.paints.specs.Paints.{paint_at, centre_of}
use Rattle.fill.specs.Fill.{cover_of, rim_ink}
use Rattle.fill.proofs.rim.Goals as goal

pub returns-in-Solid : goal.returns-in-Solid
unfolding rim_ink paint_at
returns-in-Solid c =
    let a = c.args in
    let s = a.s in
    c.draw_covered.ensures (rim_ink s.rect s.edge.r a.paint)
    record {
      keeps = λ x p _ _ e. over_c_idle p (paint_at a.paint (centre_of x) (centre_of a.row.y)) (cover_of s.rect s.edge.r (centre_of x) (centre_of a.row.y)) (search rules);
      inks = λ x p cv q _ _ _ k e. rw c.in-Solid.is (search rules);
    }

pub returns-in_default : goal.returns-in_default
unfolding rim_ink
returns-in_default c =
    let a = c.args in
    let s = a.s in
    c.draw_covered-in_default.ensures (rim_ink s.rect s.edge.r a.paint)
    record {
      keeps = λ x p _ _ e. over_c_idle p (paint_at a.paint (centre_of x) (centre_of a.row.y)) (cover_of s.rect s.edge.r (centre_of x) (centre_of a.row.y)) (search rules);
      inks = λ x p cv q _ _ _ k e. search rules;
    }
