-- `patch::try_patch` meets its contract. Each return by its law. Assumes nothing.
use Rattle.std.proofs.Common.{rules, sym, ap, ◌∙◌}
use Rattle.geom.specs.Refusals.{code}
use Rattle.sheet.proofs.Runs.{not_zero}
use Rattle.items.specs.Format.{sheet_of, format, zero_word}
use Rattle.items.proofs.Readings.{reads_accepted}
use Rattle.redraw.proofs.Lists.{lends_of}
use Rattle.redraw.proofs.Rules.{patch_old_refused, patch_new_refused, does_refused}
use Rattle.compare.specs.Compare.{Difference}
use Rattle.compare.proofs.Changes.{held, failed}
use Rattle.paint.proofs.Painting.{drawn_does}
use Rattle.paint.proofs.RefusedSheets.{sheet_refused}
use Rattle.patch.proofs.Patching.{other_header, not_allowed, not_lent, drawn_new, box_clip}
use Rattle.patch.proofs.try_patch.Goals as goal

pub returns-in_err-check_sheet : goal.returns-in_err-check_sheet
returns-in_err-check_sheet c =
    let a = c.args in
    let f = c.in_err-check_sheet.field-0.0 in
    does_refused zero_word format a.pitch a.px.now a.scratch.now _ (code f.refusal) f.item _
    (patch_old_refused format a.old.now a.new.now _ _ _ _ _ (sheet_refused a.old.now f c.in_err-check_sheet.ensures)) (search rules)

pub returns-in_err-check_sheet-2 : goal.returns-in_err-check_sheet-2
returns-in_err-check_sheet-2 c =
    let a = c.args in
    let f = c.in_err-check_sheet-2.field-0.0 in
    does_refused zero_word format a.pitch a.px.now a.scratch.now _ (code f.refusal) f.item _
    (patch_new_refused format a.old.now a.new.now _ _ _ _ (reads_accepted a.old.now (sym c.in_ok-check_sheet.ensures)) _ _ (sheet_refused a.new.now f c.in_err-check_sheet-2.ensures))
    (search rules)

pub returns-in_err-ensure : goal.returns-in_err-ensure
returns-in_err-ensure c =
    let a = c.args in
    does_refused zero_word format a.pitch a.px.now a.scratch.now _ 10 0 _
    (other_header a.old.now a.new.now (sym c.in_ok-check_sheet.ensures) (sym c.in_ok-check_sheet-2.ensures) _ _ _
    (sym c.same_header.ensures ∙ failed _ _ c.ensure.ensures c.in_err-ensure.was))
    (search rules)

pub returns-in_err-area : goal.returns-in_err-area
returns-in_err-area c =
    let a = c.args in
    let r = c.in_err-area.field-0.0 in
    let n = ap (λ (d : Difference). d.number) c.in_err-area.ensures in
    does_refused zero_word format a.pitch a.px.now a.scratch.now _ _ 0 _
    (not_allowed a.old.now a.new.now (sym c.in_ok-check_sheet.ensures) (sym c.in_ok-check_sheet-2.ensures) _ _ _
    (sym c.same_header.ensures ∙ held _ _ c.ensure.ensures c.in_ok-ensure.was) (λ z. not_zero r (n ∙ z)))
    (rw (← n) (search rules))

pub returns-in_err-check_lent : goal.returns-in_err-check_lent
returns-in_err-check_lent c =
    let a = c.args in
    let r = c.in_err-check_lent.field-0.0 in
    let n = ap (λ (d : Difference). d.number) c.in_ok-area.ensures in
    does_refused zero_word format a.pitch a.px.now a.scratch.now _ (code r) 0 _
    (not_lent a.old.now a.new.now (sym c.in_ok-check_sheet.ensures) (sym c.in_ok-check_sheet-2.ensures) _ _ _
    (sym c.same_header.ensures ∙ held _ _ c.ensure.ensures c.in_ok-ensure.was) (sym n) (code r) (sym c.in_err-check_lent.ensures) (not_zero r))
    (search rules)

pub returns : goal.returns
returns c =
    let a = c.args in
    let p = sym c.in_ok-check_sheet.ensures in
    let q = sym c.in_ok-check_sheet-2.ensures in
    let same = sym c.same_header.ensures ∙ held _ _ c.ensure.ensures c.in_ok-ensure.was in
    let number = ap (λ (d : Difference). d.number) c.in_ok-area.ensures in
    let area = ap (λ (d : Difference). d.area) c.in_ok-area.ensures in
    let z = sym c.in_ok-check_lent.ensures in
    drawn_does a.new.now a.pitch q _ (box_clip a.old.now a.new.now) a.px.now a.scratch.now (lends_of format (sheet_of a.new.now) a.pitch _ _ z)
    (drawn_new a.old.now a.new.now p q _ _ _ same (sym number) z) (rw area at c.draw_in.ensures)
