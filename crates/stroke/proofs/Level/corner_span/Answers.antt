-- `Level::corner_span` meets its contract. The columns before x are drawn, as far as the span goes. Assumes nothing.
use native.Mathlib.Omega.{arith}
use Rattle.std.proofs.Common.{◌≡◌, ◌+◌, min, refl}
use Rattle.draw.proofs.Loops.{InRow, row_start_lem, row_span, row_end}
use Rattle.stroke.specs.Stroke.{band_ink}
use Rattle.stroke.proofs.Level.corner_span.Goals.{After-corner_part-n}
use Rattle.stroke.proofs.Level.corner_span.Goals as goal

pub loop-x-init : goal.loop-x-init
loop-x-init c =
    let o = c.args.self.now.o in
    let row = c.args.row in
    let first : min row.x0 row.x1 ≡ row.x0 = omega arith in
    rw first (row_start_lem row.pitch (band_ink o.s o.width o.c) row.y row.x0 row.x1 _ c.requires.row_fits.order)

-- the columns of a part are drawn
drawn : (c : After-corner_part-n) → let a = c.args in
    InRow a.row.pitch (band_ink a.self.now.o.s a.self.now.o.width a.self.now.o.c) a.row.y a.row.x0 a.row.x1 a.px.now c.corner_part-n.new.px
    (c.loop-x.n + c.corner_part-n.result) (min (c.loop-x.x + 128) a.row.x1)
drawn c =
    let o = c.args.self.now.o in
    let here : min c.loop-x.x c.args.row.x1 ≡ c.loop-x.x = omega arith in
    row_span (band_ink o.s o.width o.c) _ _ (rw here at c.loop-x.invariant) (omega arith) (omega arith) (rw c.min.ensures at c.corner_part-n.ensures) (λ j p l h. refl)

pub loop-x-preserved : goal.loop-x-preserved
loop-x-preserved c = drawn (goal.at.loop-x-preserved c).After-corner_part-n

pub returns-else-row-2 : goal.returns-else-row-2
returns-else-row-2 c = row_end (drawn (goal.at.returns-else-row-2 c).After-corner_part-n) (omega arith)

pub returns-then-row : goal.returns-then-row
returns-then-row c =
    let o = c.args.self.now.o in
    let row = c.args.row in
    row_end (row_start_lem row.pitch (band_ink o.s o.width o.c) row.y row.x0 row.x1 _ c.requires.row_fits.order) (omega arith)
