-- A sheet that its check refuses. Assumes nothing.
use Rattle.std.proofs.Common.{ℕ, List, ◌≡◌, sym}
use Rattle.geom.specs.Refusals.{code}
use Rattle.sheet.specs.Check.{verdict, sheet_check}
use Rattle.sheet.specs.declared.check.Fault.{Fault}
use Rattle.sheet.proofs.Runs.{not_zero}
use Rattle.redraw.specs.Sheet.{refused}
use Rattle.items.specs.Format.{reading}
use Rattle.items.proofs.Readings.{reads_refused}

pub sheet_refused : (s : List ℕ) (f : Fault) → verdict (code f.refusal) f.item ≡ sheet_check s → reading s ≡ refused (code f.refusal) f.item
sheet_refused s f e = reads_refused s _ _ (sym e) (not_zero f.refusal)
