-- `maldjupp::shapes::maldjupp_ring` meets its contract, by that of `stroke::ring`. Assumes nothing.
use Rattle.maldjupp.proofs.shapes.maldjupp_ring.Goals as goal

pub ring-requires : goal.ring-requires
ring-requires c = tt

pub returns : goal.returns
returns c = c.ring.ensures
