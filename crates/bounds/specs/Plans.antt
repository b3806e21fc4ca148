-- That a box can be drawn around points, and that a box is near: what the parts below `fill_poly` ask; and the box with its need,
-- as they hand it on. No call of the library cites this file. Assumes nothing.
use Rattle.std.specs.Prelude.{true, cond, List, ◌≡◌, ◌≤◌, pos, nat_abs, length, Float}
use Rattle.gfx.specs.Points.{coords_ok}
use Rattle.bounds.specs.Bounds.{point_count, poly_box, painted, need_of}
use Rattle.bounds.specs.declared.PolyBox.{PolyBox}
use Rattle.bounds.specs.declared.Plan.{Plan}

-- points that a box can be drawn around
pub record Ranged (pts : List Float) : Type 0 where
  pub few : length pts ≤ 128
  pub some : 3 ≤ point_count pts
  pub coords : coords_ok pts ≡ true

-- a box that such points have
pub record Near (g : PolyBox) : Type 0 where
  pub left : nat_abs g.ox ≤ 8193
  pub top : nat_abs g.oy ≤ 8193
  pub wide : g.bw ≤ 16386
  pub high : g.bh ≤ 16386

-- a box and its need
abbrev pub planned : PolyBox → Plan
planned g = record { g = g; need = need_of g }

abbrev pub no_plan : Plan
no_plan = record { g = record { ox = pos 0; oy = pos 0; bw = 0; bh = 0 }; need = 0 }

-- of what is painted; all zeros where nothing is
unfoldable pub plan_of : List Float → Plan
plan_of pts = cond (painted pts) (planned (poly_box pts)) no_plan
