-- Whether a polygon is painted, and the scratch words that it needs. Assumes nothing.
use mathlib.Core.Path.{◌≡◌, refl}
use mathlib.Core.Bool.{true, false, cond}
use mathlib.Core.List.{List}
use Prim.Native.Nat.{ℕ, ◌+◌, ◌*◌, ◌≤◌}
use native.Mathlib.Omega.{arith}
use lib.Dec.{leb}
use lib.Ieee.{Float}
use borrow.Author.Tests.{leb-true}
use Rattle.geom.specs.Box.{no_box, empty}
use Rattle.geom.specs.declared.IRect.{IRect}
use Rattle.geom.proofs.Bools.{and_left, split}
use Rattle.geom.proofs.Boxes.{meet_empty}
use Rattle.draw.specs.Areas.{area, clip_to, drawn_in}
use Rattle.draw.proofs.Rows.{none_across}
use Rattle.accum.specs.Rooms.{Room}
use Rattle.bounds.specs.Bounds.{point_count, poly_box, painted, reach_of, need_of}
use Rattle.bounds.specs.Plans.{Near}
use Rattle.bounds.specs.declared.PolyBox.{PolyBox}
use Rattle.poly.specs.Poly.{poly_reach, poly_need, cleared}

pub box_room : (g : PolyBox) {n : ℕ} → Near g → n ≡ need_of g → Room g.bw g.bh n
box_room g r e = record { wide = r.wide; high = r.high; words = omega (arith, e) }

module _ (pts : List Float) where
  -- ---- by the need: a polygon that is painted needs two words and more
  pub some_painted : (poly_need pts ≡ 0 → ⊥) → painted pts ≡ true
  unfolding poly_need
  some_painted k = split (painted pts) (λ t. (cond t (need_of (poly_box pts)) 0 ≡ 0 → ⊥) → t ≡ true) (λ e k. refl) (λ e k. absurd (k refl)) k

  pub none_painted : poly_need pts ≡ 0 → painted pts ≡ false
  unfolding poly_need
  none_painted z = split (painted pts) (λ t. cond t (need_of (poly_box pts)) 0 ≡ 0 → t ≡ false) (λ e z. absurd (more (((poly_box pts).bw + 2) * (poly_box pts).bh) z)) (λ e z. refl) z
    where
      more : (k : ℕ) → k + 2 ≡ 0 → ⊥
      more k e = omega arith

  module _ (e : painted pts ≡ true) where
    pub reach_is : reach_of (poly_box pts) ≡ poly_reach pts
    unfolding poly_reach
    reach_is = rw e

    pub need_is : need_of (poly_box pts) ≡ poly_need pts
    unfolding poly_need
    need_is = rw e

    pub points_some : 3 ≤ point_count pts
    unfolding painted
    points_some = leb-true 3 (point_count pts) (and_left (leb 3 (point_count pts)) (leb ((poly_box pts).bw * (poly_box pts).bh) 4000000) e)

  module _ (e : painted pts ≡ false) where
    pub nothing_drawn : (pitch : ℕ) (clip : IRect) (f : ℕ → ℕ → ℕ → ℕ) (px : List ℕ) → px ≡ drawn_in pitch (clip_to (poly_reach pts) clip) f px
    unfolding poly_reach clip_to no_box empty
    nothing_drawn pitch clip f px = rw (e, meet_empty no_box clip refl) (none_across pitch f px (area 0 0 0 0) (omega arith))

    pub nothing_cleared : (scratch : List Float) → scratch ≡ cleared (poly_need pts) scratch
    unfolding poly_need cleared
    nothing_cleared scratch = rw e
