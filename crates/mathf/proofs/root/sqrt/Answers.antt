-- `mathf::root::sqrt` meets its contract: above zero by the pattern's root, and at each other float by a law of `Patterns`. Assumes nothing.
use Rattle.std.proofs.Common.{T, ap, ◌∙◌, rules}
use lib.Ieee.{binary32, of_bits, div, fits}
use lib.Ieee.Bits.{of_bits-to_bits}
use Rattle.mathf.specs.Root.{sqrt_of}
use Rattle.mathf.proofs.Saturating.{passed, failed}
use Rattle.mathf.proofs.Patterns.{above_bits, from_no_nan, top_root, no_root, still_root}
use Rattle.mathf.proofs.root.sqrt.Goals.{Start}
use Rattle.mathf.proofs.root.sqrt.Goals as goal

-- a parameter is a value of its format
fit : (c : Start) → T (fits binary32 c.args.x)
fit c = search rules

pub root_bits-requires : goal.root_bits-requires
unfolding of_bits
root_bits-requires c = let at = c.before.before in record { b_nonzero = above_bits at.args.x (fit (goal.at.root_bits-requires c).Start) (passed c.if-x.true); b_bound = c.if-b-lt2139095040.true }

pub float_from_bits-result : goal.float_from_bits-result
float_from_bits-result c = from_no_nan c.root_bits.result c.root_bits.ensures.0

pub returns-then-b-lt2139095040 : goal.returns-then-b-lt2139095040
returns-then-b-lt2139095040 c = let at = c.before.before.before in c.root_bits.ensures.1 ∙ ap sqrt_of (of_bits-to_bits binary32 at.args.x (fit (goal.at.returns-then-b-lt2139095040 c).Start))

pub returns-else-b-lt2139095040 : goal.returns-else-b-lt2139095040
unfolding of_bits
returns-else-b-lt2139095040 c = let at = c.before.before in top_root at.args.x (fit (goal.at.returns-else-b-lt2139095040 c).Start) (passed c.if-x.true) c.if-b-lt2139095040.false

pub returns-then-x-2 : goal.returns-then-x-2
unfolding of_bits div
returns-then-x-2 c = no_root c.args.x (passed c.if-x-2.true)

pub returns-else-x-2 : goal.returns-else-x-2
unfolding of_bits
returns-else-x-2 c = still_root c.args.x (failed c.if-x.false) (failed c.if-x-2.false)
