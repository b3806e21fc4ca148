-- `gfx::Canvas::try_clear` meets its contract. Assumes nothing.
use mathlib.Core.Path.{sym}
use Rattle.std.proofs.Common.{rules}
use Rattle.geom.proofs.Signed.{Kept}
use Rattle.gfx.proofs.Answers.{stopped_call, done_call}
use Rattle.gfx.proofs.Sizes.{open_of}
use Rattle.gfx.proofs.Valid.{valid_of_lem}
use Rattle.gfx.proofs.Fits.{rows_fit}
use Rattle.gfx.proofs.Canvas.try_clear.Goals as goal

pub returns-in_err-check_px : goal.returns-in_err-check_px
returns-in_err-check_px c = stopped_call _ c.in_err-check_px.ensures _ c.from_residual.ensures.1

pub store_rows-requires : goal.store_rows-requires
store_rows-requires c =
    let s = c.args.self in
    let o = open_of s _ (sym c.in_ok-check_px.ensures) in
    let v = valid_of_lem s o.valid in
    let w : Kept s.w = search rules in
    let h : Kept s.h = search rules in
    rw (c.nat_of.ensures, c.nat_of-2.ensures, w, h) (rows_fit s.w s.h s.pitch _ v.side_w v.side_h o.frame)

pub returns : goal.returns
returns c =
    let w : Kept c.args.self.w = search rules in
    rw (c.store_rows.ensures, c.pix.ensures, c.nat_of.ensures, w) (done_call c.in_ok-check_px.ensures)
