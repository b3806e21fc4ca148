-- `gfx::Canvas::fresh` meets its contract. Assumes nothing.
use Rattle.geom.proofs.Signed.{kept}
use Rattle.geom.specs.Box.{no_box}
use Rattle.gfx.specs.State.{fresh_of}
use Rattle.gfx.proofs.Canvas.fresh.Goals as goal

pub returns : goal.returns
unfolding fresh_of no_box
returns c =
    let w = kept c.args.w c.ranges.w.sfits in
    let h = kept c.args.h c.ranges.h.sfits in
    simp (w, h, simp (w, h) at c.new.ensures)
