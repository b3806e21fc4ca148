-- `Shade::corner_row` meets its contract. Assumes nothing.
use Rattle.std.proofs.Common.{arith}
use Rattle.shadow.specs.Shadow.{corner_from, corner_upto}
use Rattle.shadow.specs.Spans.{flat_ink, corner_ink, corner_row_ink}
use Rattle.shadow.proofs.Parts.{parts, corner_out, corner_in}
use Rattle.shadow.proofs.Shade.corner_row.Goals as goal

pub returns : goal.returns
returns c =
    let a = c.args in
    let h = a.self.now in
    let r = a.row in
    parts (corner_row_ink h a.qy) (corner_ink h a.qy) (flat_ink h.c c.alpha_of-v.result)
    (corner_from h.s) (corner_upto h.s) r.y
    (λ x p e. corner_out h a.qy x r.y p e)
    (λ x p e. rw c.alpha_of-v.ensures (corner_in h a.qy x r.y p e))
    r.pitch r.x0 r.x1 _ _ _ _ _ _ _ _ c.requires.order
    c.corner_from.ensures c.corner_upto.ensures
    (omega (arith, c.min.ensures, c.max-a.ensures)) (omega (arith, c.min-2.ensures, c.max-b.ensures))
    c.corner_span-left.ensures c.flat_span-middle.ensures c.corner_span-right.ensures
