-- `poly::outline::accumulate` meets its contract. Assumes nothing.
use mathlib.Core.Path.{◌∙◌}
use Rattle.poly.specs.Poly.{accumulated}
use Rattle.poly.proofs.outline.accumulate.Goals as goal

pub returns : goal.returns
unfolding accumulated
returns c =
    c.edges.ensures ∙ rw (c.fill.ensures.after (λ y e. e), c.requires.1)
