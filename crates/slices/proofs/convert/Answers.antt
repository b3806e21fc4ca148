-- `slices::convert` meets its contract. The elements before the index are converted. Assumes nothing.
use Rattle.std.proofs.Common.{arith}
use Rattle.slices.proofs.Turned.{turned_none, turned_more, turned_each}
use Rattle.slices.proofs.convert.Goals as goal

pub loop-i-init : goal.loop-i-init
loop-i-init g c = λ f h. turned_none f c.args.xs.now c.args.out.now

pub loop-i-preserved : goal.loop-i-preserved
loop-i-preserved g c = λ f h. turned_more f _ _ _ (c.loop-i.invariant f h) (omega arith) (h _ _ c.f.ensures)

pub returns-then-xs-out : goal.returns-then-xs-out
returns-then-xs-out g c = λ f h. turned_each f _ _ (c.loop-i.invariant f h) (omega arith) c.if-xs-out.true
