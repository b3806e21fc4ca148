-- `maldjupp::canvas::maldjupp_resize` meets its contract, by that of `gfx::Canvas::resize`. Assumes nothing.
use Rattle.geom.proofs.Signed.{kept}
use Rattle.maldjupp.proofs.canvas.maldjupp_resize.Goals as goal

pub returns : goal.returns
returns c =
    simp (kept c.args.w c.ranges.w.sfits, kept c.args.h c.ranges.h.sfits) at c.resize.ensures
