-- `mathf::convert::to_usize` meets its contract, by the laws of `Parts` and `Saturating` at 64 bits. Assumes nothing.
use Rattle.std.proofs.Common.{◌∙◌, lit≤}
use lib.Ieee.{of_bits}
use Rattle.mathf.proofs.Saturating.{Inside, inside}
use Rattle.mathf.proofs.Parts.{Taken, from_zero, far, top, none}
use Rattle.mathf.proofs.convert.to_usize.Goals.{After-from_zero, Then-x-2}
use Rattle.mathf.proofs.convert.to_usize.Goals as goal

-- below 2 ^ 23, what `cut` is given; and from there up
here : (c : After-from_zero) → Taken 64 c.args.x c.from_zero.result
unfolding of_bits
here c = rw c.from_zero.ensures (from_zero 64 c.args.x (lit≤ tt) c.if-x.true)

above-it : (c : Then-x-2) → Inside 64 64 c.args.x
unfolding of_bits
above-it c = inside 64 64 _ (lit≤ tt) (far 64 _ c.if-x.false c.if-x-2.true) c.if-x-2.true

pub cut-requires : goal.cut-requires
cut-requires c = record { not_negative = (here c).sign; in_range = (here c).small }

pub truncating_f32_to_u64-requires : goal.truncating_f32_to_u64-requires
truncating_f32_to_u64-requires c = record { lower_bound = (above-it c).low; upper_bound = (above-it c).high }

pub returns-then-x : goal.returns-then-x
returns-then-x c = c.cut.ensures ∙ (here (goal.at.returns-then-x c).After-from_zero).same

pub returns-then-x-3 : goal.returns-then-x-3
unfolding of_bits
returns-then-x-3 c = top 64 _ c.if-x-3.true c.if-x-2.false

pub returns-else-x-3 : goal.returns-else-x-3
unfolding of_bits
returns-else-x-3 c = none 64 _ c.if-x-3.false
