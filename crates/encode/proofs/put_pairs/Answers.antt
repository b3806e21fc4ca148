-- `encode::put_pairs` meets its contract: the pairs that are left, put after those that are put, make all. Assumes nothing.
use Rattle.std.proofs.Common.{sym, ◌∙◌, arith}
use Rattle.encode.proofs.Turns.{pairs_step, pairs_done}
use Rattle.encode.proofs.put_pairs.Goals as goal

pub loop-i-preserved : goal.loop-i-preserved
loop-i-preserved g c =
    let l = c.loop-i in
    let bytes = c.bytes_of-len.ensures in (
      omega (arith, c.requires.short _ _ bytes, l.invariant.0),
      λ f h room. l.invariant.1 f h room
          ∙ sym (rw c.put_pair.ensures (pairs_step f c.args.items.now l.i (omega arith) _ c.index-items-i.is _ (h _ _ bytes) l.at l.buf (omega arith))),
    )

pub returns : goal.returns
returns g c =
    λ f h room. pairs_done f c.args.items.now c.loop-i.i (omega arith) c.loop-i.at c.loop-i.buf (omega arith)
    ∙ sym (c.loop-i.invariant.1 f h room)
