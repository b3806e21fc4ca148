-- `Span::draw_covered` meets its contract. The columns before x are drawn. Assumes nothing.
use Rattle.std.proofs.Common.{◌≡◌, ◌≤◌, ℕ, length, ◌-◌}
use Rattle.draw.specs.Areas.{InksCovered}
use Rattle.draw.proofs.Loops.{InRow}
use Rattle.draw.proofs.Span.draw_covered.Given as goal

abbrev pub invariant-loop-x : goal.invariant-loop-x
invariant-loop-x g l =
    (l.n ≤ l.x - l.fn.self.x0) × (length l.px ≡ length l.initial.px) × (l.fn.self.x0 ≤ l.x) × (l.x ≤ l.fn.self.x1)
    × ((f : ℕ → ℕ → ℕ → ℕ) → InksCovered (goal.C-post g l.cover) (goal.F-post g l.ink) l.fn.self f
    → InRow l.fn.self.pitch f l.fn.self.y l.fn.self.x0 l.fn.self.x1 l.initial.px l.px l.n l.x)
