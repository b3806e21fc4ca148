-- The words that measuring tells are the least with which painting is not refused by 9, for any bytes. Assumes nothing.
use Prim.Native.Nat.{ℕ}
use mathlib.Core.List.{List}
use Rattle.items.specs.Format.{format}
use Rattle.items.proofs.Readings.{no_nine}
use Rattle.redraw.specs.Measure.{measuring, Least}
use Rattle.redraw.proofs.Measured.{least}

pub least_words : (sheet : List ℕ) → Least format sheet (measuring format sheet).words
least_words sheet = least format no_nine sheet
