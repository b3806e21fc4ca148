-- `encode::put_items` meets its contract: the items that are left, put after those that are put, make all. Assumes nothing.
use Rattle.std.proofs.Common.{sym, ◌∙◌, arith}
use Rattle.encode.proofs.Turns.{joined_more, joined_step, joined_none, joined_done}
use Rattle.encode.proofs.put_items.Goals as goal

pub loop-x-preserved : goal.loop-x-preserved
loop-x-preserved g c =
    let l = c.loop-x in
    let items = c.args.items.now in
    let bytes = c.bytes_of-bytes.ensures in
    let h = c.loop-x-test.true in (
      omega (arith, c.requires.short _ _ bytes, l.invariant.0),
      λ f gives. omega (arith, joined_more f items l.x-index h _ c.x-item.is _ (gives _ _ bytes), l.invariant.1 f gives),
      λ f gives room. l.invariant.2 f gives room
          ∙ sym (rw c.put.ensures (joined_step f items l.x-index h _ c.x-item.is _ (gives _ _ bytes) l.at l.buf (omega (arith, l.invariant.1 f gives)))),
    )

pub returns : goal.returns
returns g c =
    let l = c.loop-x in
    let items = c.args.items.now in
    λ f gives room.
    joined_done f items l.x-index (omega arith) l.at l.buf (omega (arith, joined_none f items l.x-index (omega arith), l.invariant.1 f gives))
    ∙ sym (l.invariant.2 f gives room)
