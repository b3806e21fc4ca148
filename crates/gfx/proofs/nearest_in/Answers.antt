-- `gfx::nearest_in` meets its contract. Assumes nothing.
use mathlib.Core.Path.{◌∙◌}
use Rattle.geom.proofs.Signed.{kept}
use Rattle.gfx.proofs.Sizes.{nearest_is}
use Rattle.gfx.proofs.nearest_in.Goals as goal

pub returns : goal.returns
returns c =
    c.min.ensures
    ∙ rw (
      nearest_is c.args.n c.args.x,
      c.nat_of.ensures,
      c.saturating_sub.ensures,
      c.nat_of-2.ensures,
      kept c.args.n c.ranges.n.sfits,
      kept c.args.x c.ranges.x.sfits,
    )
