-- `encode::sheet_len` meets its contract: the bytes counted and those of the items that are left make the sheet. Assumes nothing.
use Rattle.std.proofs.Common.{arith}
use Rattle.encode.proofs.Turns.{joined_more, joined_none}
use Rattle.encode.proofs.sheet_len.Goals as goal

pub loop-x-preserved : goal.loop-x-preserved
loop-x-preserved g c =
    let i = c.loop-x.invariant in (
      omega (arith, c.requires.short _ _ c.bytes_of.ensures, i.0),
      λ f h. omega (arith, joined_more f c.args.items.now c.loop-x.x-index c.loop-x-test.true _ c.x-item.is _ (h _ _ c.bytes_of.ensures), i.1 f h),
    )

pub returns : goal.returns
returns g c = λ f h. omega (arith, joined_none f c.args.items.now c.loop-x.x-index (omega arith), c.loop-x.invariant.1 f h)
