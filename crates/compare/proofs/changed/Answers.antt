-- `compare::changed` meets its contract. Assumes nothing.
use Rattle.std.proofs.Common.{rules, refl, sym, ap, ◌∙◌, ◌≡◌}
use borrow.Author.Tests.{eqb-true, eqb-false}
use Rattle.geom.specs.Box.{no_box}
use Rattle.sheet.specs.Check.{count_of}
use Rattle.redraw.specs.Sheet.{canvas}
use Rattle.items.specs.Format.{sheet_of}
use Rattle.compare.specs.Compare.{told, told_by, changed_by}
use Rattle.compare.proofs.Changes.{held, failed, counts_differ, even}
use Rattle.compare.proofs.changed.Goals as goal

pub returns-in_err-ensure : goal.returns-in_err-ensure
returns-in_err-ensure c =
    let a = c.args in
    let told : told_by c.from_residual.result ≡ told 10 no_box = search rules in
    let h = rw (c.u16_at.ensures.0, c.u16_at-2.ensures.0) at (eqb-false _ _ (failed _ _ c.ensure.ensures (c.in_err-ensure.was))) in
    told ∙ sym (counts_differ a.old.now a.new.now (canvas (sheet_of a.new.now)) h)

pub changed_in-requires : goal.changed_in-requires
changed_in-requires c = sym c.u16_at.ensures.0 ∙ eqb-true _ _ (held _ _ c.ensure.ensures (c.in_ok-ensure.was)) ∙ c.u16_at-2.ensures.0

pub returns : goal.returns
returns c =
    let a = c.args in
    let q : count_of a.old.now ≡ count_of a.new.now = sym c.u16_at.ensures.0 ∙ eqb-true _ _ (held _ _ c.ensure.ensures (c.in_ok-ensure.was)) ∙ c.u16_at-2.ensures.0 in
    c.changed_in.ensures ∙ sym (ap (changed_by (canvas (sheet_of a.new.now))) (even a.old.now a.new.now (count_of a.new.now) (sym q) refl))
