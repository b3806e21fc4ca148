-- `mathf::whole::cut` meets its contract, by the law of `Sums`. Assumes nothing.
use Rattle.std.proofs.Common.{arith}
use lib.Ieee.{of_bits}
use Rattle.mathf.proofs.Floors.{in_float_lem}
use Rattle.mathf.proofs.Sums.{Near, near, place_few, place_over, place_is}
use Rattle.mathf.proofs.whole.cut.Goals.{Start}
use Rattle.mathf.proofs.whole.cut.Goals as goal

here : (c : Start) → Near c.args.x
here c = near c.args.x c.requires.not_negative c.requires.in_range

pub float_to_bits-n : goal.float_to_bits-n
unfolding of_bits
float_to_bits-n c = (here c).no_nan

pub overflow_sub-n : goal.overflow_sub-n
unfolding of_bits
overflow_sub-n c = omega (arith, (here c).low)

pub int_to_float-n : goal.int_to_float-n
unfolding of_bits
int_to_float-n c = in_float_lem _ (place_few _ (here (goal.at.int_to_float-n c).Start))

pub overflow_sub-result : goal.overflow_sub-result
unfolding of_bits
overflow_sub-result c = (place_over _ (here (goal.at.overflow_sub-result c).Start) c.if-n-x.true).0

pub returns-then-n-x : goal.returns-then-n-x
unfolding of_bits
returns-then-n-x c = (place_over _ (here (goal.at.returns-then-n-x c).Start) c.if-n-x.true).1

pub returns-else-n-x : goal.returns-else-n-x
unfolding of_bits
returns-else-n-x c = place_is _ (here (goal.at.returns-else-n-x c).Start) c.if-n-x.false
