-- `measure::measure` meets its contract, each return by its law. Assumes nothing.
use mathlib.Core.Path.{sym}
use Rattle.sheet.proofs.Runs.{not_zero}
use Rattle.measure.proofs.Walks.{refused_room, read_room}
use Rattle.measure.proofs.measure.Goals as goal

pub returns-in-Err : goal.returns-in-Err
returns-in-Err c = rw c.into.ensures (refused_room _ _ _ (sym c.in-Err.ensures) (not_zero c.in-Err.fault.refusal))

pub returns-in-Ok : goal.returns-in-Ok
returns-in-Ok c = read_room _ (sym c.in-Ok.ensures) _ _ _ c.walk-tally.ensures
