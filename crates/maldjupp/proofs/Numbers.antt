-- The number of a call with a brush, by whether its kind is over 3, and of a shadow, by whether its `skip` is over 1. Assumes
-- nothing.
use mathlib.Core.Path.{◌≡◌, refl}
use mathlib.Core.Bool.{Bool, true, false, cond, ◌&&◌}
use mathlib.Core.List.{List}
use Prim.Native.Nat.{ℕ}
use native.Mathlib.Omega.{arith}
use borrow.Author.Tests.{ne_eqb}
use lib.Dec.{leb, eqb}
use lib.Ieee.{Float}
use Rattle.geom.proofs.Refusals.{then_open}
use Rattle.paints.specs.Paints.{paint_ok}
use Rattle.gfx.specs.declared.Canvas.{Canvas}
use Rattle.gfx.specs.Calls.{unless, and_then, px_number, shape_number}
use Rattle.gfx.specs.Points.{points_ok, coords_ok, points_number}
use Rattle.poly.specs.Poly.{poly_need, poly_number}
use Rattle.maldjupp.specs.declared.brush.Brush.{Brush}
use Rattle.maldjupp.specs.Brushes.{paint_of, kind_ok, brush_number, five_number, points_brush_number, points_kind_number}
use Rattle.maldjupp.specs.Skips.{skip_ok, skip_number}

module _ (c : Canvas) (n : ℕ) where
  pub five_some : five_number c n ≡ 0 → ⊥
  unfolding five_number
  five_some e = five (then_open (px_number c n) 5 e).1
    where
      five : ◌≡◌ {A = ℕ} 5 0 → ⊥
      five e = omega arith

  module _ (b : Brush) (ok : Bool) where
    pub kind_over : kind_ok b ≡ false → five_number c n ≡ brush_number c n b ok
    unfolding five_number brush_number
    kind_over e = rw e

    pub kind_fits : kind_ok b ≡ true → shape_number c n ok ≡ brush_number c n b ok
    unfolding shape_number brush_number
    kind_fits e = rw e

  module _ (skip : ℕ) (ok : Bool) where
    pub skip_over : skip_ok skip ≡ false → five_number c n ≡ skip_number c n skip ok
    unfolding five_number skip_number
    skip_over e = rw e

    pub skip_fits : skip_ok skip ≡ true → shape_number c n ok ≡ skip_number c n skip ok
    unfolding shape_number skip_number
    skip_fits e = rw e

  module _ (pts : List Float) where
    pub points_kind_some : points_kind_number c n pts ≡ 0 → ⊥
    unfolding points_kind_number
    points_kind_some e = go (points_ok pts) (then_open (px_number c n) _ e).1
      where
        go : (p : Bool) → unless p 13 5 ≡ 0 → ⊥
        go true e = omega arith
        go false e = omega arith

    module _ (b : Brush) (words : ℕ) where
      pub points_kind_over : kind_ok b ≡ false → points_kind_number c n pts ≡ points_brush_number c n pts b words
      unfolding points_kind_number points_brush_number
      points_kind_over e = rw e

      -- what is given stays
      pub points_kind_stays : {A : Type 0} (next given : A) → kind_ok b ≡ false → given ≡ cond (eqb (points_brush_number c n pts b words) 0) next given
      points_kind_stays next given e = rw (← points_kind_over e, ne_eqb (points_kind_number c n pts) 0 points_kind_some)

      pub points_kind_fits : kind_ok b ≡ true → poly_number c n pts (paint_of b) words ≡ points_brush_number c n pts b words
      unfolding poly_number points_number points_brush_number
      points_kind_fits e =
          rw e (go (eqb (px_number c n) 0) refl (points_ok pts) (coords_ok pts && paint_ok (paint_of b)) (unless (leb (poly_need pts) words) 9 0))
        where
          go : (t : Bool) → eqb (px_number c n) 0 ≡ t → (p f : Bool) (rest : ℕ)
              → and_then (cond t (unless p 13 (unless f 6 0)) (px_number c n)) rest ≡ cond t (unless p 13 (unless f 6 rest)) (px_number c n)
          go true z true true rest = refl
          go true z true false rest = refl
          go true z false f rest = refl
          go false z p f rest = rw z
