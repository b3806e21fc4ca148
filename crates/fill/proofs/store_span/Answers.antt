-- `fill::store_span` meets its contract. Assumes nothing.
use Rattle.std.proofs.Common.{rules}
use Rattle.fill.proofs.store_span.Goals as goal

pub returns : goal.returns
returns c = c.draw.ensures (λ _ _ _. c.args.v) (λ x p q _ _ _ e. search rules)
