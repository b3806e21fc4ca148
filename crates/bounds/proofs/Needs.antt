-- The sizes of a box, and its plan. Assumes nothing.
use mathlib.Core.Path.{◌≡◌}
use mathlib.Core.List.{List}
use Prim.Native.Nat.{◌+◌, ◌*◌, ◌<◌, ◌≤◌}
use native.Mathlib.Nat.{mul-le-mul}
use native.Mathlib.Omega.{arith}
use lib.Ieee.{Float}
use borrow.Author.Tests.{le-leb, lt-leb}
use Rattle.bounds.specs.Bounds.{point_count, poly_box, painted}
use Rattle.bounds.specs.Plans.{Near, no_plan, planned, plan_of}
use Rattle.bounds.specs.declared.PolyBox.{PolyBox}

-- the sizes of a box are no trouble
pub box_cells : (g : PolyBox) → Near g → g.bw * g.bh ≤ 268500996
box_cells g n = mul-le-mul n.wide n.high

pub box_words : (g : PolyBox) → Near g → (g.bw + 2) * g.bh ≤ 268533768
box_words g n = let w : g.bw + 2 ≤ 16388 = omega (arith, n.wide) in mul-le-mul w n.high

module _ (pts : List Float) where
  -- ---- the plan, by the box
  pub few_plan : point_count pts < 3 → no_plan ≡ plan_of pts
  unfolding plan_of painted
  few_plan h = rw (lt-leb 3 (point_count pts) h)

  module _ (g : PolyBox) (e : g ≡ poly_box pts) (h : 3 ≤ point_count pts) where
    pub large_plan : 4000000 < g.bw * g.bh → no_plan ≡ plan_of pts
    unfolding plan_of painted
    large_plan l = rw (le-leb 3 (point_count pts) h, ← e, lt-leb (g.bw * g.bh) 4000000 l)

    pub small_plan : g.bw * g.bh ≤ 4000000 → planned g ≡ plan_of pts
    unfolding plan_of painted
    small_plan l = rw (le-leb 3 (point_count pts) h, ← e, le-leb (g.bw * g.bh) 4000000 l)
