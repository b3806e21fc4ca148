-- `stroke::blank_upto` meets its contract. Assumes nothing.
use lib.Dec.{T}
use lib.Ieee.{binary32, of_bits, neg}
use lib.Ieee.Scale.{finite}
use lib.Ieee.Fits.{mul-fits}
use Rattle.stroke.proofs.Blanks.{upto_test, upto_none}
use Rattle.stroke.proofs.blank_upto.Goals as goal

-- the bounds that the code tests
least : T (finite (neg (of_bits binary32 0x4980_0000)))
unfolding of_bits neg
least = tt

greatest : T (finite (of_bits binary32 0x4980_0000))
unfolding of_bits
greatest = tt

pub returns-then-small-m : goal.returns-then-small-m
returns-then-small-m c = upto_test _ _ _ _ _ least greatest (mul-fits binary32 _ _) (rw c.sqrt.ensures at c.if-small-m.true)

pub returns-else-small-m : goal.returns-else-small-m
returns-else-small-m c = upto_none _ _
