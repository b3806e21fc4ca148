-- `sheet::bytes::float_of` meets its contract. Assumes nothing.
use mathlib.Core.Path.{sym}
use lib.Ieee.{div, of_bits}
use Rattle.sheet.proofs.Places.{above_nan, below_nan}
use Rattle.sheet.proofs.bytes.float_of.Goals as goal

pub float_from_bits-result : goal.float_from_bits-result
float_from_bits-result c = below_nan _ c.if-bits-gt2139095040.false

pub returns-then-bits-gt2139095040 : goal.returns-then-bits-gt2139095040
unfolding div of_bits
returns-then-bits-gt2139095040 c = sym (above_nan _ c.if-bits-gt2139095040.true)
