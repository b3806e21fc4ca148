-- `gfx::Canvas::try_new` meets its contract. Assumes nothing.
use Rattle.geom.proofs.Signed.{kept}
use Rattle.gfx.proofs.Answers.{stopped_call, done_call}
use Rattle.gfx.proofs.Canvas.try_new.Goals as goal

pub returns-in_err-check_new : goal.returns-in_err-check_new
returns-in_err-check_new c =
    let w = kept c.args.w c.ranges.w.sfits in
    let h = kept c.args.h c.ranges.h.sfits in
    stopped_call _ (rw (w, h) at c.in_err-check_new.ensures) _ c.from_residual.ensures.1

pub returns : goal.returns
returns c =
    let w = kept c.args.w c.ranges.w.sfits in
    let h = kept c.args.h c.ranges.h.sfits in
    let e = rw (w, h) at c.blank.ensures in
    rw (e.0, e.1) (done_call (rw (w, h) at c.in_ok-check_new.ensures))
