-- `draw::fill_in` meets its contract. The places before x are filled. Assumes nothing.
use Rattle.std.proofs.Common.{◌≡◌, ◌≤◌, ◌<◌, ℕ}
use Rattle.draw.proofs.Held.{Filling}
use Rattle.draw.proofs.fill_in.Given as goal

abbrev pub invariant-loop-x : goal.invariant-loop-x
invariant-loop-x g l =
    (h : ℕ → ℕ) → ((x v : ℕ) → l.fn.x0 ≤ x → x < l.fn.x1 → goal.F-post g l.f x v → v ≡ h x) → Filling h g.row.N l.fn.x0 l.fn.x1 l.row l.x
