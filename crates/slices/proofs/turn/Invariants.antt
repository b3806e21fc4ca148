-- `slices::turn` meets its contract. The elements before the index are turned. Assumes nothing.
use Rattle.std.proofs.Common.{◌≡◌}
use Rattle.slices.proofs.Turned.{turned}
use Rattle.slices.proofs.turn.Given as goal

abbrev pub invariant-loop-x : goal.invariant-loop-x
invariant-loop-x g l =
    (f : g.row.T.Denot → g.row.T.Denot) → ((x y : g.row.T.Denot) → goal.F-post g l.f x y → y ≡ f x) → l.xs ≡ turned f l.x-index l.initial.xs l.initial.xs
