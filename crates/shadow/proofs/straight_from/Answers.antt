-- `shadow::straight_from` meets its contract. Assumes nothing.
use Rattle.shadow.specs.Shadow.{straight_from}
use Rattle.std.proofs.Common.{rules}
use Rattle.shadow.proofs.straight_from.Goals as goal

pub returns : goal.returns
unfolding straight_from
returns c = search rules
