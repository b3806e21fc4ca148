-- `Shade::column_alpha` meets its contract. Assumes nothing.
use Rattle.shadow.specs.Spans.{column_alpha}
use Rattle.shadow.proofs.Shade.column_alpha.Goals as goal

pub returns : goal.returns
unfolding column_alpha
returns c = rw (c.fabs.ensures, c.centre.ensures) at c.alpha_of.ensures
