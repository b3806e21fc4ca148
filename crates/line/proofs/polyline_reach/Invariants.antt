-- `line::polyline_reach` meets its contract. The reaches of the lines from point i - 1 on are joined. Assumes nothing.
use Rattle.std.proofs.Common.{◌≡◌, ◌-◌, max}
use Rattle.color.specs.declared.Color.{Color}
use Rattle.draw.specs.Parts.{reach_all}
use Rattle.line.specs.Polylines.{lines_from}
use Rattle.line.proofs.polyline_reach.Given as goal

abbrev pub invariant-loop-i : goal.invariant-loop-i
invariant-loop-i l = (c : Color) → l.area ≡ reach_all (lines_from l.pts l.width c (l.n - max 1 l.i) (l.i - 1))
