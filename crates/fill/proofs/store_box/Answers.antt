-- `fill::store_box` meets its contract. Assumes nothing.
use Rattle.std.proofs.Common.{rules}
use Rattle.fill.proofs.store_box.Goals as goal

pub draw-requires-clause-draws : goal.draw-requires-clause-draws
draw-requires-clause-draws c = (λ _ _ _. c.args.v, λ px y n px' _ _ fits e. search rules)

pub returns : goal.returns
returns c = c.draw.ensures (λ _ _ _. c.args.v) (λ px y n px' _ _ fits e. search rules)
