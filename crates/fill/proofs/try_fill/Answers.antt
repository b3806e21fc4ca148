-- `fill::try_fill` meets its contract. Assumes nothing.
use mathlib.Core.Path.{sym}
use Rattle.draw.proofs.Clips.{drawn_clip}
use Rattle.draw.proofs.Loops.{drew_as}
use Rattle.gfx.proofs.Answers.{stopped_shape, done_shape}
use Rattle.gfx.proofs.Sizes.{shape_open}
use Rattle.gfx.proofs.Fits.{canvas_fits}
use Rattle.fill.proofs.try_fill.Goals as goal

pub returns-in_err-check_shape : goal.returns-in_err-check_shape
returns-in_err-check_shape c = stopped_shape _ c.in_err-check_shape.ensures _ c.from_residual.ensures.1

pub fill_area-requires : goal.fill_area-requires
fill_area-requires c = rw (c.clipped-bb.ensures, c.fill_reach.ensures) (canvas_fits _ _ _ (shape_open _ _ _ (sym c.in_ok-check_shape.ensures)))

pub returns : goal.returns
returns c =
    let e = rw (c.clipped-bb.ensures, c.fill_reach.ensures) at c.fill_area.ensures in
    done_shape c.in_ok-check_shape.ensures (drew_as e (sym (drawn_clip _ _ _ _ _)))
