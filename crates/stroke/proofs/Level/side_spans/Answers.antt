-- `Level::side_spans` meets its contract. Assumes nothing.
use native.Mathlib.Omega.{arith}
use Rattle.draw.proofs.Held.{held_part}
use Rattle.stroke.specs.Rows.{column_cover}
use Rattle.stroke.proofs.Gaps.{sides_drawn}
use Rattle.stroke.proofs.Level.side_spans.Goals as goal

pub band_span-left-requires-clause-holds : goal.band_span-left-requires-clause-holds
band_span-left-requires-clause-holds c =
    let o = c.args.self.now.o in
    let row = c.args.row in
    held_part (column_cover o.s o.width) row.x0 row.x1 _ c.requires.holds (omega arith) (omega arith)

pub band_span-right-requires-clause-holds : goal.band_span-right-requires-clause-holds
band_span-right-requires-clause-holds c =
    let o = c.args.self.now.o in
    let row = c.args.row in
    held_part (column_cover o.s o.width) row.x0 row.x1 _ c.requires.holds (omega arith) (omega arith)

pub returns : goal.returns
returns c =
    let o = c.args.self.now.o in
    let row = c.args.row in
    let gap = c.requires.gap in
    sides_drawn o.s o.width o.c row.y row.pitch row.x0 row.x1 _ _ c.max-a.result c.max-b.result _ _ _ c.requires.not_full c.requires.row_fits.order
    gap.from gap.upto (omega arith) (omega arith) c.band_span-left.ensures c.band_span-right.ensures
