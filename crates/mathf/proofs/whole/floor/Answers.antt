-- `mathf::whole::floor` meets its contract: each way through it is a law of `Floors`. Assumes nothing.
use Rattle.std.proofs.Common.{T, inl, le_of_lt, add-one-le, arith, rules}
use lib.Ieee.{binary32, of_bits, neg, fits}
use Rattle.mathf.proofs.Saturating.{passed}
use Rattle.mathf.proofs.Floors.{below_asks, counted, in_float_lem, small, big, more, same, low_down, still}
use Rattle.mathf.proofs.whole.floor.Goals.{Start}
use Rattle.mathf.proofs.whole.floor.Goals as goal

-- a parameter is a value of its format
fit : (c : Start) → T (fits binary32 c.args.x)
fit c = search rules

pub cut-requires : goal.cut-requires
unfolding of_bits
cut-requires c = record { not_negative = inl (passed c.if-x.true); in_range = passed c.if-x-2.true }

pub int_to_float-result : goal.int_to_float-result
int_to_float-result c = in_float_lem c.cut.result (le_of_lt (counted _ _ c.cut.ensures))

pub cut-n-requires : goal.cut-n-requires
unfolding of_bits neg
cut-n-requires c = let b = below_asks c.args.x (passed c.if-x-3.true) (passed c.if-x-4.true) in record { not_negative = inl b.0; in_range = b.1 }

pub int_to_float-n : goal.int_to_float-n
int_to_float-n c = in_float_lem c.cut-n.result (le_of_lt (counted _ _ c.cut-n.ensures))

pub overflow_add-result : goal.overflow_add-result
overflow_add-result c = omega (arith, counted _ _ c.cut-n.ensures)

pub int_to_float-result-then-n-x : goal.int_to_float-result-then-n-x
int_to_float-result-then-n-x c = in_float_lem _ (add-one-le (counted _ _ c.cut-n.ensures))

pub int_to_float-result-else-n-x : goal.int_to_float-result-else-n-x
int_to_float-result-else-n-x c = in_float_lem _ (le_of_lt (counted _ _ c.cut-n.ensures))

pub returns-then-x-2 : goal.returns-then-x-2
unfolding of_bits
returns-then-x-2 c =
    let start = c.before.before.before.before in
    small start.args.x c.cut.result c.if-x.true c.if-x-2.true c.cut.ensures

pub returns-else-x-2 : goal.returns-else-x-2
unfolding of_bits
returns-else-x-2 c = big c.args.x (fit (goal.at.returns-else-x-2 c).Start) c.if-x.true c.if-x-2.false

pub returns-then-n-x : goal.returns-then-n-x
unfolding of_bits neg
returns-then-n-x c =
    let called = c.before.before.before in
    let tests = called.before in
    more tests.args.x called.cut-n.result tests.if-x-3.true tests.if-x-4.true called.cut-n.ensures c.if-n-x.true

pub returns-else-n-x : goal.returns-else-n-x
unfolding of_bits neg
returns-else-n-x c =
    let called = c.before.before.before in
    let tests = called.before in
    same tests.args.x called.cut-n.result tests.if-x-3.true tests.if-x-4.true called.cut-n.ensures c.if-n-x.false

pub returns-else-x-4 : goal.returns-else-x-4
unfolding of_bits neg
returns-else-x-4 c = low_down c.args.x (fit (goal.at.returns-else-x-4 c).Start) c.if-x-3.true c.if-x-4.false

pub returns-else-x-3 : goal.returns-else-x-3
unfolding of_bits
returns-else-x-3 c = still c.args.x (fit (goal.at.returns-else-x-3 c).Start) c.if-x.false c.if-x-3.false
