-- `shadow::corner_upto` meets its contract. Assumes nothing.
use Rattle.shadow.specs.Shadow.{corner_upto}
use Rattle.std.proofs.Common.{rules}
use Rattle.shadow.proofs.corner_upto.Goals as goal

pub returns : goal.returns
unfolding corner_upto
returns c = search rules
