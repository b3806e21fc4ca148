-- `Area::draw` meets its contract. The rows before y are drawn. Assumes nothing.
use Rattle.std.proofs.Common.{◌≤◌, ℕ}
use Rattle.draw.specs.Areas.{DrawsRows}
use Rattle.draw.proofs.Loops.{InRows}
use Rattle.draw.proofs.Area.draw.Given as goal

abbrev pub invariant-loop-y : goal.invariant-loop-y
invariant-loop-y g l =
    (l.self.y0 ≤ l.y)
    × ((f : ℕ → ℕ → ℕ → ℕ) → DrawsRows (goal.F-post g l.row) l.pitch l.self f → InRows l.pitch f l.self.x0 l.self.x1 l.self.y0 l.self.y1 l.initial.px l.px l.n l.y)
