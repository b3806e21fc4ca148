-- `fill::try_ground` meets its contract. Assumes nothing.
use mathlib.Core.Path.{sym}
use Rattle.draw.proofs.Clips.{drawn_clip}
use Rattle.draw.proofs.Loops.{drew_as}
use Rattle.gfx.proofs.Answers.{stopped_shape, done_shape}
use Rattle.gfx.proofs.Sizes.{open_of}
use Rattle.gfx.proofs.Fits.{canvas_fits}
use Rattle.fill.proofs.try_ground.Goals as goal

pub returns-in_err-check_px : goal.returns-in_err-check_px
returns-in_err-check_px c = stopped_shape _ c.in_err-check_px.ensures _ c.from_residual.ensures.1

pub store_box-requires : goal.store_box-requires
store_box-requires c = rw c.clipped-bb.ensures (canvas_fits _ _ _ (open_of _ _ (sym c.in_ok-check_px.ensures)))

pub returns : goal.returns
returns c =
    let e = rw (c.clipped-bb.ensures, c.pix.ensures) at c.store_box.ensures in
    done_shape c.in_ok-check_px.ensures (drew_as e (sym (drawn_clip _ _ _ _ _)))
