-- `Shade::flat_span` meets its contract. Assumes nothing.
use Rattle.std.proofs.Common.{rules}
use Rattle.shadow.specs.Spans.{flat_ink}
use Rattle.shadow.proofs.Shade.flat_span.Goals as goal

pub returns : goal.returns
unfolding flat_ink
returns c = c.draw.ensures (flat_ink c.args.self.c c.args.v) (λ x p q _ _ _ e. search rules)
