-- `maldjupp::maldjupp_paint` meets its contract, by that of `paint::paint`. Assumes nothing.
use Rattle.maldjupp.proofs.maldjupp_paint.Goals as goal

pub paint-requires : goal.paint-requires
paint-requires c = tt

pub returns : goal.returns
returns c = c.paint.ensures
