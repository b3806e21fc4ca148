-- `Shade::straight_row` meets its contract. Assumes nothing.
use Rattle.std.proofs.Common.{arith}
use Rattle.draw.proofs.Held.{held_part}
use Rattle.shadow.specs.Shadow.{straight_from, straight_upto}
use Rattle.shadow.specs.Spans.{column_alpha, flat_ink, straight_ink, straight_row_ink}
use Rattle.shadow.proofs.Parts.{parts, straight_out, straight_in}
use Rattle.shadow.proofs.Shade.straight_row.Goals as goal

pub straight_span-left-requires-clause-holds : goal.straight_span-left-requires-clause-holds
straight_span-left-requires-clause-holds c =
    let a = c.args in
    held_part (column_alpha a.self.now) a.row.x0 a.row.x1 _ c.requires.holds (omega arith) (omega (arith, c.min.ensures, c.max-a.ensures, c.requires.row_fits.order))

pub straight_span-right-requires-clause-holds : goal.straight_span-right-requires-clause-holds
straight_span-right-requires-clause-holds c =
    let a = c.args in
    held_part (column_alpha a.self.now) a.row.x0 a.row.x1 _ c.requires.holds (omega (arith, c.max-a.ensures, c.max-b.ensures)) (omega arith)

pub returns : goal.returns
returns c =
    let a = c.args in
    let h = a.self.now in
    let r = a.row in
    parts (straight_row_ink h a.skip a.sdy) (straight_ink h a.sdy) (flat_ink h.c c.straight_middle-m.result)
    (straight_from h.s h.blur) (straight_upto h.s h.blur) r.y
    (λ x p e. straight_out h a.skip a.sdy x r.y p e)
    (λ x p e. rw c.straight_middle-m.ensures (straight_in h a.skip a.sdy x r.y p e))
    r.pitch r.x0 r.x1 _ _ _ _ _ _ _ _ c.requires.row_fits.order
    c.straight_from.ensures c.straight_upto.ensures
    (omega (arith, c.min.ensures, c.max-a.ensures)) (omega (arith, c.min-2.ensures, c.max-b.ensures))
    c.straight_span-left.ensures c.flat_span-middle.ensures c.straight_span-right.ensures
