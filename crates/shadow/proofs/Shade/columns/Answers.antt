-- `Shade::columns` meets its contract. Assumes nothing.
use Rattle.std.proofs.Common.{rules}
use Rattle.shadow.specs.Spans.{column_alpha}
use Rattle.shadow.proofs.Shade.columns.Goals as goal

pub returns : goal.returns
returns c = c.filled.ensures (column_alpha c.args.self) (λ x v l u e. search rules)
