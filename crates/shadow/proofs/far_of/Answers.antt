-- `shadow::far_of` meets its contract. Assumes nothing.
use lib.Ieee.{binary32}
use lib.Ieee.Fits.{mul-fits}
use Rattle.shadow.proofs.Fading.{faded_at, faded_none}
use Rattle.shadow.proofs.far_of.Goals as goal

pub returns-then-out-past : goal.returns-then-out-past
returns-then-out-past c =
    faded_at _ c.args.r c.args.blur c.args.scale _ (mul-fits binary32 _ _) c.requires (rw c.sqrt.ensures at c.if-out-past.true)

pub returns-else-out-past : goal.returns-else-out-past
returns-else-out-past c = faded_none _ _
