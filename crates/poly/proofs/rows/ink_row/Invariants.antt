-- `poly::rows::ink_row` meets its contract. The columns before x are drawn, and a is the sum of their words. Assumes nothing.
use Rattle.std.proofs.Common.{◌≡◌, ◌≤◌, ℕ, length, ◌+◌, ◌-◌}
use Rattle.color.specs.declared.Color.{Color}
use Rattle.draw.proofs.Loops.{InRow}
use Rattle.poly.specs.Poly.{run_sum}
use Rattle.poly.specs.Rooms.{ink_from, InksCovered}
use Rattle.poly.proofs.rows.ink_row.Given as goal

abbrev pub invariant-loop-x : goal.invariant-loop-x
invariant-loop-x g l =
    let row = l.row in
    (l.n ≤ l.x - row.x0) × (length l.px ≡ length l.initial.px) × (row.x0 ≤ l.x) × (l.x ≤ row.x1) × (l.a ≡ run_sum l.acc l.ls (l.skip + (l.x - row.x0)))
    × ((colour : ℕ → Color) → InksCovered (goal.F-post g l.ink) row colour
    → InRow row.pitch (ink_from l.acc l.ls l.skip row.x0 colour) row.y row.x0 row.x1 l.initial.px l.px l.n l.x)
