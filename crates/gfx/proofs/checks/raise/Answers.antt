-- `gfx::checks::raise` meets its contract. Assumes nothing.
use mathlib.Core.Path.{◌∙◌}
use lib.IntN.{pos}
use Rattle.geom.proofs.Int.{max_is}
use Rattle.geom.proofs.Signed.{kept}
use Rattle.gfx.proofs.checks.raise.Goals as goal

pub returns : goal.returns
returns c =
    let n = c.args.n in
    rw (kept c.max.result c.max.type_inv) (rw (kept n c.ranges.n.sfits) at c.max.ensures.value ∙ max_is n (pos 1))
