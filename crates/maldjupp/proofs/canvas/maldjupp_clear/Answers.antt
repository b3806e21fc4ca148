-- `maldjupp::canvas::maldjupp_clear` meets its contract, by that of `gfx::Canvas::clear`. Assumes nothing.
use Rattle.maldjupp.proofs.canvas.maldjupp_clear.Goals as goal

pub clear-requires : goal.clear-requires
clear-requires c = tt

pub returns : goal.returns
returns c = c.clear.ensures
