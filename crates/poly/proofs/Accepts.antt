-- The reach and the need of any points: those that the calls accept have their own, others have none. Assumes nothing.
use mathlib.Core.Path.{◌≡◌, refl}
use mathlib.Core.Bool.{true, false, cond}
use mathlib.Core.List.{List}
use Prim.Native.Nat.{◌≤◌}
use lib.Dec.{lit≤}
use lib.ListN.{length}
use lib.Ieee.{Float}
use Rattle.geom.specs.Box.{no_box}
use Rattle.geom.proofs.Bools.{and_left, and_right, split}
use Rattle.gfx.specs.Points.{points_ok, coords_ok}
use Rattle.gfx.proofs.Coords.{points_few}
use Rattle.bounds.specs.Bounds.{painted, poly_box, reach_of, need_of}
use Rattle.bounds.specs.Plans.{Near, planned, no_plan, plan_of}
use Rattle.bounds.proofs.Boxed.{box_near}
use Rattle.poly.specs.Poly.{poly_reach, poly_need, poly_ok, need_in, reach_in}
use Rattle.poly.proofs.Needs.{points_some}

module _ (pts : List Float) where
  -- ---- points that are accepted
  module _ (h : poly_ok pts ≡ true) where
    pub need_in_lem : need_in pts ≡ poly_need pts
    unfolding need_in
    need_in_lem = rw h

    pub reach_in_lem : reach_in pts ≡ poly_reach pts
    unfolding reach_in
    reach_in_lem = rw h

    pub few_in : length pts ≤ 128
    unfolding poly_ok
    few_in = points_few pts (and_left (points_ok pts) (coords_ok pts) h)

    pub coords_in : coords_ok pts ≡ true
    unfolding poly_ok
    coords_in = and_right (points_ok pts) (coords_ok pts) h

  -- ---- others
  module _ (h : poly_ok pts ≡ false) where
    pub need_out : 0 ≡ need_in pts
    unfolding need_in
    need_out = rw h

    pub reach_out : no_box ≡ reach_in pts
    unfolding reach_in
    reach_out = rw h

  -- ---- the plan has both
  pub plan_need : (plan_of pts).need ≡ poly_need pts
  unfolding plan_of poly_need
  plan_need = split (painted pts) (λ t. (cond t (planned (poly_box pts)) no_plan).need ≡ cond t (need_of (poly_box pts)) 0) (λ e. refl) (λ e. refl)

  pub plan_reach : reach_of (plan_of pts).g ≡ poly_reach pts
  unfolding plan_of poly_reach no_box
  plan_reach = split (painted pts) (λ t. reach_of (cond t (planned (poly_box pts)) no_plan).g ≡ cond t (reach_of (poly_box pts)) no_box) (λ e. refl) (λ e. refl)

  pub plan_box : painted pts ≡ true → (plan_of pts).g ≡ poly_box pts
  unfolding plan_of
  plan_box e = rw e

  pub plan_near : length pts ≤ 128 → coords_ok pts ≡ true → Near (plan_of pts).g
  unfolding plan_of
  plan_near few coords =
      split (painted pts) (λ t. Near (cond t (planned (poly_box pts)) no_plan).g)
      (λ e. box_near pts (record { few = few; some = points_some pts e; coords = coords }))
      (λ e. record { left = lit≤ tt; top = lit≤ tt; wide = lit≤ tt; high = lit≤ tt })
