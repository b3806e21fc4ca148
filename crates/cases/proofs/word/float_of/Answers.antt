-- `cases::word::float_of` meets its contract. Above an infinity's pattern stands a NaN, which is 0 / 0; any other pattern is no NaN's.
-- Assumes nothing.
use Rattle.std.proofs.Common.{sym}
use lib.Ieee.{div, of_bits}
use Rattle.sheet.proofs.Places.{above_nan, below_nan}
use Rattle.cases.proofs.word.float_of.Goals as goal

pub float_from_bits-result : goal.float_from_bits-result
float_from_bits-result c = below_nan _ c.if-b-gt2139095040.false

pub returns-then-b-gt2139095040 : goal.returns-then-b-gt2139095040
unfolding div of_bits
returns-then-b-gt2139095040 c = sym (above_nan _ c.if-b-gt2139095040.true)
