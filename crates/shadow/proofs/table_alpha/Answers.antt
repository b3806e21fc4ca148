-- `shadow::table_alpha` meets its contract. Assumes nothing.
use native.Mathlib.Omega.{arith}
use Rattle.shadow.specs.Levels.{table_alpha}
use Rattle.shadow.proofs.Levels.{below_96}
use Rattle.shadow.proofs.table_alpha.Goals as goal

pub returns-then-t : goal.returns-then-t
unfolding table_alpha
returns-then-t c = rw c.if-t.true

pub returns-then-t-2 : goal.returns-then-t-2
unfolding table_alpha
returns-then-t-2 c = rw (c.if-t.false, c.if-t-2.true)

pub offset_bounds-lut-i : goal.offset_bounds-lut-i
offset_bounds-lut-i c = rw c.to_usize-i.ensures (omega (arith, below_96 _ c.if-t-2.false))

pub bounds-lut-i : goal.bounds-lut-i
bounds-lut-i c = rw c.to_usize-i.ensures (omega (arith, below_96 _ c.if-t-2.false))

pub returns : goal.returns
unfolding table_alpha
returns c =
    rw (c.if-t.false, c.if-t-2.false, ← c.to_usize-i.ensures)
