-- `mathf::whole::ceil_i` meets its contract, by the law of `Sums`. Assumes nothing.
use Rattle.std.proofs.Common.{◌∙◌, inl, arith, w32}
use lib.Ieee.{of_bits}
use mir.Facts.{to_z_pos}
use Rattle.mathf.proofs.Saturating.{passed}
use Rattle.mathf.proofs.Floors.{in_float_lem}
use Rattle.mathf.proofs.Sums.{Near, near, place_few, place_short, place_reached}
use Rattle.mathf.proofs.whole.ceil_i.Goals.{Then-x-2}
use Rattle.mathf.proofs.whole.ceil_i.Goals as goal

-- past both tests
here : (c : Then-x-2) → Near c.args.x
unfolding of_bits
here c = near c.args.x (inl (passed c.if-x.true)) (passed c.if-x-2.true)

pub float_to_bits-n : goal.float_to_bits-n
unfolding of_bits
float_to_bits-n c = (here c).no_nan

pub overflow_sub-n : goal.overflow_sub-n
unfolding of_bits
overflow_sub-n c = omega (arith, (here c).low)

pub int_to_float-n : goal.int_to_float-n
unfolding of_bits
int_to_float-n c = in_float_lem _ (place_few _ (here (goal.at.int_to_float-n c).Then-x-2))

pub overflow_add-result : goal.overflow_add-result
unfolding of_bits
overflow_add-result c = omega (arith, place_few _ (here (goal.at.overflow_add-result c).Then-x-2))

pub overflow_cast-result : goal.overflow_cast-result
unfolding of_bits
overflow_cast-result c = omega (arith, place_few _ (here (goal.at.overflow_cast-result c).Then-x-2))

pub overflow_cast-result-then-x-2 : goal.overflow_cast-result-then-x-2
unfolding of_bits
overflow_cast-result-then-x-2 c = omega (arith, place_few _ (here (goal.at.overflow_cast-result-then-x-2 c).Then-x-2))

pub returns-then-n-x : goal.returns-then-n-x
unfolding of_bits
returns-then-n-x c =
    let t = here (goal.at.returns-then-n-x c).Then-x-2 in
    to_z_pos w32 (omega (arith, place_few _ t)) ∙ place_short _ t c.if-n-x.true

pub returns-then-x-2 : goal.returns-then-x-2
unfolding of_bits
returns-then-x-2 c =
    let t = here (goal.at.returns-then-x-2 c).Then-x-2 in
    to_z_pos w32 (omega (arith, place_few _ t)) ∙ place_reached _ t c.if-n-x.false
