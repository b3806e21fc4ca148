-- `gfx::store_rows` meets its contract. The rows before y are set. Assumes nothing.
use mathlib.Core.Path.{◌≡◌}
use Prim.Native.Nat.{◌-◌, ◌≤◌}
use lib.ListN.{length}
use Rattle.draw.specs.Areas.{area, drawn_in}
use Rattle.gfx.proofs.store_rows.Given as goal

abbrev pub invariant-loop-y : goal.invariant-loop-y
invariant-loop-y l = (l.y ≤ l.h) × (l.px ≡ drawn_in l.pitch (area 0 0 l.w l.y) (λ _ _ _. l.v) l.initial.px) × (length l.px ≡ length l.initial.px)

abbrev pub decreases-loop-y : goal.decreases-loop-y
decreases-loop-y l = l.h - l.y
