-- `maldjupp::canvas::maldjupp_new` meets its contract, by that of `gfx::Canvas::new`. Assumes nothing.
use Rattle.geom.proofs.Signed.{kept}
use Rattle.maldjupp.proofs.canvas.maldjupp_new.Goals as goal

pub returns : goal.returns
returns c =
    simp (kept c.args.w c.ranges.w.sfits, kept c.args.h c.ranges.h.sfits) at c.new.ensures
