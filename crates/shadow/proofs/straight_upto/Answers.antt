-- `shadow::straight_upto` meets its contract. Assumes nothing.
use Rattle.shadow.specs.Shadow.{straight_upto}
use Rattle.std.proofs.Common.{rules}
use Rattle.shadow.proofs.straight_upto.Goals as goal

pub returns : goal.returns
unfolding straight_upto
returns c = search rules
