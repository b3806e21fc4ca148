-- `compact::compact` meets its contract. Assumes nothing.
use Prim.Native.Nat.{ℕ}
use mathlib.Core.List.{List}
use mathlib.Core.Path.{◌≡◌, sym}
use borrow.Author.Rules.{rules}
use borrow.Author.Tests.{ne_eqb}
use native.Mathlib.Omega.{arith}
use lib.ListN.{length, take}
use lib.Seq.{length-take-le}
use Rattle.sheet.specs.Check.{verdict, sheet_check}
use Rattle.sheet.proofs.Runs.{not_zero}
use Rattle.encode.specs.Encode.{fit_number, Wrote}
use Rattle.encode.specs.declared.Written.{Written}
use Rattle.chosen.specs.Chosen.{chosen, chosen_sheet}
use Rattle.compact.specs.Compact.{kept_in, compacted, compact_number}
use Rattle.compact.proofs.Walks.{small_of}
use Rattle.compact.proofs.compact.Goals as goal

module _ (s buf : List ℕ) where
  not_read : (n k : ℕ) → sheet_check s ≡ verdict n k → (n ≡ 0 → ⊥) → (r : Written) → r ≡ record { number = n; item = k; len = 0 }
      → Wrote (compact_number s (length buf)) (sheet_check s).item (compacted s) buf r buf
  unfolding compact_number
  not_read n k e h r q = rw (e, ne_eqb n 0 h) (record { answers = rw (ne_eqb n 0 h) q; writes = rw (ne_eqb n 0 h) })

  is_read : sheet_check s ≡ verdict 0 0 → (kept : List ℕ) → chosen s kept ≡ kept_in s → (r : Written) (buf' : List ℕ)
      → Wrote (fit_number (chosen_sheet s kept) (length buf)) 0 (chosen_sheet s kept) buf r buf'
      → Wrote (compact_number s (length buf)) (sheet_check s).item (compacted s) buf r buf'
  unfolding compact_number compacted
  is_read e kept q r buf' w = rw (e, ← q) w

pub returns-in-Err : goal.returns-in-Err
returns-in-Err c =
    let a = c.args in
    not_read a.sheet.now a.buf.now _ _ (sym c.in-Err.ensures) (not_zero c.in-Err.fault.refusal) _ (rw c.into.ensures at c.refused.ensures)

pub keep-count-requires : goal.keep-count-requires
keep-count-requires c = (sym c.in_default.ensures, search rules)

pub slice_bounds-kept-end : goal.slice_bounds-kept-end
slice_bounds-kept-end c = omega (arith, c.keep-count.ensures.1)

pub slice_bounds-write_chosen-end : goal.slice_bounds-write_chosen-end
slice_bounds-write_chosen-end c =
    let kept = c.keep-count in
    let long : length kept.new.kept ≡ 1024 = search rules in
    sym (length-take-le kept.result kept.new.kept (omega (arith, kept.ensures.1)))

pub write_chosen-requires : goal.write_chosen-requires
write_chosen-requires c =
    let kept = c.keep-count in
    small_of _ (sym c.in_default.ensures) kept.new.kept kept.result kept.ensures.1

pub returns : goal.returns
returns c =
    let a = c.args in
    let kept = c.keep-count in
    is_read a.sheet.now a.buf.now (sym c.in_default.ensures) (take kept.result kept.new.kept) kept.ensures.0 _ _ c.write_chosen.ensures
