-- `gfx::store_row` meets its contract. The words before p are v. Assumes nothing.
use Rattle.std.proofs.Common.{◌≡◌, ◌-◌, ◌+◌, ◌++◌, take, drop, replicate}
use Rattle.gfx.proofs.store_row.Given as goal

abbrev pub invariant-loop-p : goal.invariant-loop-p
invariant-loop-p l = l.p-items ≡ replicate l.p-index l.v ++ drop l.p-index (take (l.row + l.w - l.row) (drop l.row l.fn.px))
