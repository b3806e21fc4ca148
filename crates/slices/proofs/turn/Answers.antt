-- `slices::turn` meets its contract. The elements before the index are turned. Assumes nothing.
use Rattle.std.proofs.Common.{refl, arith}
use Rattle.slices.proofs.Turned.{turned_none, turned_in_place, turned_all}
use Rattle.slices.proofs.turn.Goals as goal

pub loop-x-init : goal.loop-x-init
loop-x-init g c = λ f h. turned_none f c.args.xs.now c.args.xs.now

pub loop-x-preserved : goal.loop-x-preserved
loop-x-preserved g c = λ f h. turned_in_place f _ c.x-item.result (c.loop-x.invariant f h) c.loop-x-test.true (h _ _ c.f.ensures)

pub returns : goal.returns
returns g c = λ f h. turned_all f _ _ (c.loop-x.invariant f h) (omega arith) refl
