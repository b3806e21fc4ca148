-- `Shade::corner_side` meets its contract. Assumes nothing.
use Rattle.shadow.specs.Shadow.{corner_side}
use Rattle.shadow.proofs.Shade.corner_side.Goals as goal

pub returns-then-qx : goal.returns-then-qx
unfolding corner_side
returns-then-qx c = rw (← c.fabs.ensures, c.if-qx.true) c.corner_alpha.ensures

pub returns-else-qx : goal.returns-else-qx
unfolding corner_side
returns-else-qx c = rw (← c.fabs.ensures, c.if-qx.false) c.alpha_of.ensures
