-- `gfx::Canvas::try_resize` meets its contract. Assumes nothing.
use mathlib.Core.Path.{sym, ◌∙◌}
use Rattle.geom.proofs.Signed.{kept}
use Rattle.gfx.proofs.Answers.{stopped_call, done_call}
use Rattle.gfx.proofs.Sizes.{resize_new}
use Rattle.gfx.specs.Calls.{resized, resized_px}
use Rattle.gfx.proofs.Canvas.try_resize.Goals as goal

pub returns-in_err-check_resize : goal.returns-in_err-check_resize
returns-in_err-check_resize c =
    let w = kept c.args.w c.ranges.w.sfits in
    let h = kept c.args.h c.ranges.h.sfits in
    stopped_call _ (rw (w, h) at c.in_err-check_resize.ensures) _ c.from_residual.ensures.1

pub returns-then-same_size : goal.returns-then-same_size
unfolding resized resized_px
returns-then-same_size c =
    let w = kept c.args.w c.ranges.w.sfits in
    let h = kept c.args.h c.ranges.h.sfits in
    rw (sym (rw (w, h) at c.same_size.ensures) ∙ c.if-same_size.true) (done_call (rw (w, h) at c.in_ok-check_resize.ensures))

pub blank-requires : goal.blank-requires
blank-requires c =
    let w = kept c.args.w c.ranges.w.sfits in
    let h = kept c.args.h c.ranges.h.sfits in
    rw (w, h) (resize_new c.args.self c.args.w c.args.h _ (sym (rw (w, h) at c.in_ok-check_resize.ensures)))

pub returns : goal.returns
unfolding resized resized_px
returns c =
    let w = kept c.args.w c.ranges.w.sfits in
    let h = kept c.args.h c.ranges.h.sfits in
    let e = rw (w, h) at c.blank.ensures in
    rw (e.0, e.1, sym (rw (w, h) at c.same_size.ensures) ∙ c.if-same_size.false) (done_call (rw (w, h) at c.in_ok-check_resize.ensures))
