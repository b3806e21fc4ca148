-- `Shade::straight_span` meets its contract. Assumes nothing.
use Rattle.std.proofs.Common.{rules}
use Rattle.draw.specs.Held.{Holds}
use Rattle.shadow.specs.Spans.{straight_ink}
use Rattle.shadow.proofs.Shade.straight_span.Goals as goal

pub returns : goal.returns
unfolding straight_ink Holds
returns c = c.draw.ensures (straight_ink c.args.self.now c.args.sdy) (λ x p q h u _ e. search rules)
