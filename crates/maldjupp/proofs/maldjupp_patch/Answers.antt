-- `maldjupp::maldjupp_patch` meets its contract, by that of `patch::patch`. Assumes nothing.
use Rattle.maldjupp.proofs.maldjupp_patch.Goals as goal

pub patch-requires : goal.patch-requires
patch-requires c = tt

pub returns : goal.returns
returns c = c.patch.ensures
