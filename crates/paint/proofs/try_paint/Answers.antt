-- `paint::try_paint` meets its contract, each return by its law. Assumes nothing.
use Rattle.std.proofs.Common.{rules, sym}
use Rattle.geom.specs.Refusals.{code}
use Rattle.sheet.proofs.Runs.{not_zero}
use Rattle.items.specs.Format.{sheet_of, format, zero_word}
use Rattle.redraw.proofs.Rules.{paint_refused, paint_unlent, paint_draws, does_refused}
use Rattle.redraw.proofs.Lists.{lends_of}
use Rattle.items.proofs.Readings.{reads_accepted}
use Rattle.clips.proofs.Standing.{whole}
use Rattle.paint.proofs.Painting.{drawn_does}
use Rattle.paint.proofs.RefusedSheets.{sheet_refused}
use Rattle.paint.proofs.try_paint.Goals as goal

pub returns-in_err-check_sheet : goal.returns-in_err-check_sheet
returns-in_err-check_sheet c =
    let a = c.args in
    let f = c.in_err-check_sheet.field-0.0 in
    does_refused zero_word format a.pitch a.px.now a.scratch.now _ (code f.refusal) f.item _
    (paint_refused format a.sheet.now _ _ _ _ _ (sheet_refused a.sheet.now f c.in_err-check_sheet.ensures)) (search rules)

pub returns-in_err-check_lent : goal.returns-in_err-check_lent
returns-in_err-check_lent c =
    let a = c.args in
    let r = c.in_err-check_lent.field-0.0 in
    does_refused zero_word format a.pitch a.px.now a.scratch.now _ (code r) 0 _
    (paint_unlent format a.sheet.now a.pitch _ _ (sheet_of a.sheet.now) (reads_accepted a.sheet.now (sym c.in_ok-check_sheet.ensures)) (code r) (sym c.in_err-check_lent.ensures) (not_zero r))
    (search rules)

pub returns : goal.returns
returns c =
    let a = c.args in
    let s = a.sheet.now in
    let ok = sym c.in_ok-check_sheet.ensures in
    let z = sym c.in_ok-check_lent.ensures in
    drawn_does s a.pitch ok _ (whole s) a.px.now a.scratch.now (lends_of format (sheet_of s) a.pitch _ _ z)
    (paint_draws format s a.pitch _ _ (sheet_of s) (reads_accepted s ok) z) (rw c.canvas_of.ensures at c.draw_in.ensures)
