-- `mathf::root::slow_root` meets its contract, since `whole_root` does. Assumes nothing.
use Rattle.std.proofs.Common.{le_of_lt, arith}
use Rattle.mathf.proofs.Roots.{root_small, square_le, square_fits, near_up, near_down}
use Rattle.mathf.proofs.root.slow_root.Goals as goal

pub overflow_mul-q : goal.overflow_mul-q
overflow_mul-q c = record { fits = square_fits _ (le_of_lt (root_small _ _ c.requires c.whole_root-q.ensures)) }

pub overflow_add-q : goal.overflow_add-q
overflow_add-q c =
    let q = root_small _ _ c.requires c.whole_root-q.ensures in
    omega (arith, square_le _ (le_of_lt q))

pub returns-then-q-m : goal.returns-then-q-m
returns-then-q-m c = near_up _ _ c.whole_root-q.ensures c.if-q-m.true

pub returns-else-q-m : goal.returns-else-q-m
returns-else-q-m c = near_down _ _ c.whole_root-q.ensures c.if-q-m.false
