-- `Shade::corner_span` meets its contract. The columns before x are drawn, or all. Assumes nothing.
use Rattle.std.proofs.Common.{◌≡◌, ℕ, min}
use Rattle.draw.proofs.Loops.{InRow}
use Rattle.shadow.specs.Spans.{corner_ink}
use Rattle.shadow.proofs.Shade.corner_span.Given as goal

abbrev pub invariant-loop-x : goal.invariant-loop-x
invariant-loop-x l =
    (at : ℕ) × (at ≡ min l.x l.row.x1) × InRow l.row.pitch (corner_ink l.self l.qy) l.row.y l.row.x0 l.row.x1 l.initial.px l.px l.n at
