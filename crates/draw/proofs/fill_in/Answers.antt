-- `draw::fill_in` meets its contract. The places before x are filled. Assumes nothing.
use native.Mathlib.Omega.{arith}
use Rattle.draw.proofs.Held.{held_start, held_next}
use Rattle.draw.proofs.fill_in.Goals as goal

pub loop-x-init : goal.loop-x-init
loop-x-init g c = λ h a. held_start (omega arith) c.requires.places.0

pub loop-x-preserved : goal.loop-x-preserved
loop-x-preserved g c = λ h a.
    held_next c.requires.places.1 (c.loop-x.invariant h a) c.loop-x-test.true (a _ _ (omega arith) c.loop-x-test.true c.f.ensures)
