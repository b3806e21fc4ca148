-- `line::polyline_reach` meets its contract. The reaches of the lines from point i - 1 on are joined. Assumes nothing.
use mathlib.Core.Path.{◌≡◌, ◌∙◌}
use Rattle.std.proofs.Common.{◌-◌, ◌/◌, max, length}
use native.Mathlib.Omega.{arith}
use Rattle.geom.specs.Box.{no_box, join_all}
use Rattle.line.specs.Polylines.{lines_from}
use Rattle.line.proofs.Joints.{reach_turn}
use Rattle.line.proofs.polyline_reach.Goals as goal

pub loop-i-init : goal.loop-i-init
unfolding no_box join_all lines_from
loop-i-init c =
    let n = length c.args.pts.now / 2 in
    let z : n - max 1 n ≡ 0 = omega arith in
    λ col. rw z

pub loop-i-preserved : goal.loop-i-preserved
loop-i-preserved c = λ col.
    c.join-area.ensures
    ∙ rw (c.line_reach.ensures, c.point.ensures, c.point-in-loop-i.ensures, c.loop-i.invariant col) (reach_turn _ _ col _ _ (omega arith) (omega arith))
