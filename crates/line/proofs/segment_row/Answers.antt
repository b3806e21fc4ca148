-- `line::segment_row` meets its contract. Assumes nothing.
use Rattle.std.proofs.Common.{rules}
use Rattle.color.proofs.Overs.{over_c_idle}
use Rattle.paints.specs.Paints.{centre_of}
use Rattle.line.specs.Lines.{cover_of, segment_ink}
use Rattle.line.proofs.segment_row.Goals as goal

pub returns : goal.returns
unfolding segment_ink
returns c =
    let a = c.args in
    c.draw_covered.ensures (segment_ink a.s.segment a.color)
    record {
      keeps = λ x p _ _ e. over_c_idle p a.color (cover_of a.s.segment (centre_of x) (centre_of a.row.y)) (search rules);
      inks = λ x p cv q _ _ _ k e. search rules;
    }
