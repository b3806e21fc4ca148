-- `Shade::corner_alphas` meets its contract. Assumes nothing.
use Rattle.std.proofs.Common.{rules}
use Rattle.shadow.specs.Spans.{side_alpha}
use Rattle.shadow.proofs.Shade.corner_alphas.Goals as goal

pub returns : goal.returns
unfolding side_alpha
returns c = c.filled.ensures (side_alpha c.args.self c.args.qy c.args.x0) (λ k v l u e. search rules)
