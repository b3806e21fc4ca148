-- `maldjupp::canvas::maldjupp_get` meets its contract, by that of `gfx::Canvas::get`. Assumes nothing.
use Rattle.geom.proofs.Signed.{kept}
use Rattle.maldjupp.proofs.canvas.maldjupp_get.Goals as goal

pub returns : goal.returns
returns c =
    simp (kept c.args.x c.ranges.x.sfits, kept c.args.y c.ranges.y.sfits) at c.get.ensures
