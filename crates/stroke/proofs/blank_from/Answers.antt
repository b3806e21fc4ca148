-- `stroke::blank_from` meets its contract. Assumes nothing.
use lib.Ieee.{binary32}
use lib.Ieee.Fits.{mul-fits}
use Rattle.stroke.proofs.Blanks.{from_at, from_none}
use Rattle.stroke.proofs.blank_from.Goals as goal

pub returns-then-sqrt-r : goal.returns-then-sqrt-r
returns-then-sqrt-r c = λ width. from_at _ _ width (mul-fits binary32 _ _) (rw c.sqrt.ensures at c.if-sqrt-r.true)

pub returns-else-sqrt-r : goal.returns-else-sqrt-r
returns-else-sqrt-r c = λ width. from_none _ width
