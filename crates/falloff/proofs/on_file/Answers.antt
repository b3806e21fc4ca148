-- `falloff::on_file` meets its contract: the test of the rule is computed over the table of the source. Assumes nothing.
use mathlib.Core.Path.{refl}
use lib.Ieee.{of_bits, to_bits, round, add, sub, mul, div, of_int}
use Rattle.falloff.specs.Falloff.{fraction_bits}
use Rattle.falloff.proofs.Fractions.{right, on_file}
use Rattle.falloff.proofs.on_file.Goals as goal

pub returns : goal.returns
unfolding right fraction_bits to_bits of_bits round add sub mul div of_int
returns c = on_file _ refl refl
