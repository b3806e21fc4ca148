-- `shadow::corner_from` meets its contract. Assumes nothing.
use Rattle.shadow.specs.Shadow.{corner_from}
use Rattle.std.proofs.Common.{rules}
use Rattle.shadow.proofs.corner_from.Goals as goal

pub returns : goal.returns
unfolding corner_from
returns c = search rules
