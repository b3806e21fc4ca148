-- `mathf::convert::to_u32` meets its contract, by the laws of `Parts` and `Saturating` at 32 bits. Assumes nothing.
use Rattle.std.proofs.Common.{◌∙◌, lit≤}
use lib.Ieee.{of_bits}
use Rattle.mathf.proofs.Saturating.{Inside, inside, cut_fits}
use Rattle.mathf.proofs.Parts.{Taken, from_zero, far, top, none}
use Rattle.mathf.proofs.convert.to_u32.Goals.{After-from_zero, Then-x-2}
use Rattle.mathf.proofs.convert.to_u32.Goals as goal

-- below 2 ^ 23, what `cut` is given; and from there up
here : (c : After-from_zero) → Taken 32 c.args.x c.from_zero.result
unfolding of_bits
here c = rw c.from_zero.ensures (from_zero 32 c.args.x (lit≤ tt) c.if-x.true)

above-it : (c : Then-x-2) → Inside 32 64 c.args.x
unfolding of_bits
above-it c = inside 32 64 _ (lit≤ tt) (far 32 _ c.if-x.false c.if-x-2.true) c.if-x-2.true

pub cut-requires : goal.cut-requires
cut-requires c = record { not_negative = (here c).sign; in_range = (here c).small }

pub truncating_f32_to_u64-requires : goal.truncating_f32_to_u64-requires
truncating_f32_to_u64-requires c = record { lower_bound = (above-it c).low; upper_bound = (above-it c).high }

pub overflow_cast-result : goal.overflow_cast-result
overflow_cast-result c = record { fits = cut_fits 32 64 _ (above-it (goal.at.overflow_cast-result c).Then-x-2) c.truncating_f32_to_u64.ensures }

pub returns-then-x : goal.returns-then-x
returns-then-x c = c.cut.ensures ∙ (here (goal.at.returns-then-x c).After-from_zero).same

pub returns-then-x-2 : goal.returns-then-x-2
returns-then-x-2 c = c.truncating_f32_to_u64.ensures ∙ (above-it (goal.at.returns-then-x-2 c).Then-x-2).same

pub returns-then-x-3 : goal.returns-then-x-3
unfolding of_bits
returns-then-x-3 c = top 32 _ c.if-x-3.true c.if-x-2.false

pub returns-else-x-3 : goal.returns-else-x-3
unfolding of_bits
returns-else-x-3 c = none 32 _ c.if-x-3.false
