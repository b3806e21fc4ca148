-- `slices::convert` meets its contract. The elements before the index are converted. Assumes nothing.
use Rattle.std.proofs.Common.{◌≡◌}
use Rattle.slices.proofs.Turned.{turned}
use Rattle.slices.proofs.convert.Given as goal

abbrev pub invariant-loop-i : goal.invariant-loop-i
invariant-loop-i g l =
    (f : _ → g.row.T.Denot) → ((x : _) (y : g.row.T.Denot) → goal.F-post g l.f x y → y ≡ f x) → l.out ≡ turned f l.i l.xs l.initial.out
