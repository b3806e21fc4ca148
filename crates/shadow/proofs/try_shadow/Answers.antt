-- `shadow::try_shadow` meets its contract. Assumes nothing.
use mathlib.Core.Path.{sym}
use Rattle.draw.proofs.Clips.{drawn_clip}
use Rattle.draw.proofs.Loops.{drew_as, drew_none}
use Rattle.draw.proofs.Rows.{none_down}
use Rattle.gfx.proofs.Answers.{stopped_shape, done_shape}
use Rattle.gfx.proofs.Sizes.{shape_open}
use Rattle.gfx.proofs.Fits.{canvas_fits}
use Rattle.shadow.specs.Shadow.{shadow_ink}
use Rattle.shadow.proofs.try_shadow.Goals as goal

pub returns-in_err-check_shape : goal.returns-in_err-check_shape
returns-in_err-check_shape c =
    let n = rw (c.floats_ok.ensures, c.in_range.ensures) at c.in_err-check_shape.ensures in
    stopped_shape _ n _ c.from_residual.ensures.1

pub returns-then-b : goal.returns-then-b
returns-then-b c =
    let n = rw (c.floats_ok.ensures, c.in_range.ensures) at c.in_ok-check_shape.ensures in
    let a = c.args in
    let e = rw (c.clipped-b.ensures, c.shadow_reach.ensures) at
    (none_down a.canvas.pitch (shadow_ink a.rect a.r a.blur a.color a.skip) a.px.now c.clipped-b.result c.if-b.true) in
    done_shape n (drew_as (drew_none {most = 0} e) (sym (drawn_clip _ _ _ _ _)))

pub shade_area-requires : goal.shade_area-requires
shade_area-requires c = rw c.clipped-b.ensures (canvas_fits _ _ _ (shape_open _ _ _ (sym c.in_ok-check_shape.ensures)))

pub returns : goal.returns
returns c =
    let n = rw (c.floats_ok.ensures, c.in_range.ensures) at c.in_ok-check_shape.ensures in
    let e = rw (c.clipped-b.ensures, c.shadow_reach.ensures, c.of.ensures) at c.shade_area.ensures in
    done_shape n (drew_as e (sym (drawn_clip _ _ _ _ _)))
