-- `mathf::convert::to_i32` meets its contract, by the laws of `Saturating` at 31 bits and a sign. A signed local holds bits, so each use of one reads it back (`to_z w (of_z w z)`). Assumes nothing.
use Rattle.std.proofs.Common.{◌≡◌, ◌∙◌, lit≤, to_z-of_z, w32, w64, SFits, to_z, of_z}
use lib.Ieee.{of_bits, neg, to_signed}
use Rattle.mathf.proofs.Saturating.{InsideSigned, inside_signed, signed_fits, above_signed, bottom_signed, nan_signed}
use Rattle.mathf.proofs.convert.to_i32.Goals.{After-truncating_f32_to_i64, Then-x-2}
use Rattle.mathf.proofs.convert.to_i32.Goals as goal

-- past both tests
here : (c : Then-x-2) → InsideSigned 31 c.args.x
unfolding of_bits neg
here c = inside_signed 31 _ (lit≤ tt) c.if-x.true c.if-x-2.true

-- the cut, read back from its 64 bits, is the answer, and fits 32
cut : (c : After-truncating_f32_to_i64) → to_z w64 (of_z w64 c.truncating_f32_to_i64.result) ≡ to_signed 31 c.args.x
cut c = let e = c.truncating_f32_to_i64.ensures in to_z-of_z (signed_fits w64 _ e) ∙ e ∙ (here c.before).same

narrow : (c : After-truncating_f32_to_i64) → SFits w32 (to_z w64 (of_z w64 c.truncating_f32_to_i64.result))
narrow c = signed_fits w32 _ (cut c)

pub truncating_f32_to_i64-requires : goal.truncating_f32_to_i64-requires
truncating_f32_to_i64-requires c = record { lower_bound = (here c).low; upper_bound = (here c).high }

pub overflow_cast-result : goal.overflow_cast-result
overflow_cast-result c = narrow c

pub returns-then-x-2 : goal.returns-then-x-2
returns-then-x-2 c = to_z-of_z (narrow c) ∙ cut c

pub returns-else-x-2 : goal.returns-else-x-2
unfolding of_bits neg
returns-else-x-2 c = above_signed 31 _ c.if-x.true c.if-x-2.false

pub returns-then-x-3 : goal.returns-then-x-3
unfolding of_bits neg
returns-then-x-3 c = bottom_signed 31 _ c.if-x.false c.if-x-3.true

pub returns-else-x-3 : goal.returns-else-x-3
unfolding of_bits neg
returns-else-x-3 c = nan_signed 31 _ c.if-x.false c.if-x-3.false
