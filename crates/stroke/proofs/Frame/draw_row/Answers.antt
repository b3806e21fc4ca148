-- `Frame::draw_row` meets its contract. Assumes nothing.
use Rattle.std.proofs.Common.{rules}
use Rattle.stroke.proofs.Gaps.{full_drawn}
use Rattle.stroke.proofs.Frame.draw_row.Goals as goal

pub returns-then-full_row : goal.returns-then-full_row
returns-then-full_row c =
    let o = c.args.self in
    let row = c.args.row in
    full_drawn o.s o.width o.c row.y row.pitch row.x0 row.x1 _ _ (search rules) (search rules)
