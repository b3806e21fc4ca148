-- Reach and need of an item that is no shape, or no polygon, by its kind; and of points, by how many they are. Assumes nothing.
use Prim.Native.Nat.{ℕ, ◌*◌, ◌%◌, ◌<◌, ◌≤◌}
use mathlib.Core.Path.{◌≡◌, refl}
use mathlib.Core.Bool.{Bool, true, false, cond, ◌&&◌}
use mathlib.Core.List.{List}
use native.Mathlib.Omega.{arith}
use borrow.Author.Tests.{ne_eqb, lt-leb, le-leb}
use lib.Dec.{eqb}
use Rattle.geom.specs.Box.{no_box}
use Rattle.gfx.specs.Points.{points_ok, coords_ok}
use Rattle.poly.specs.Poly.{poly_ok, reach_in, need_in}
use Rattle.sheet.specs.Kinds.{kind_at}
use Rattle.items.specs.Items.{read_rect, read_fill, read_stroke, read_line, read_shadow, read_chain, read_item, item_of, points_of, joints_of}
use Rattle.items.specs.Format.{chain_reach, reach_of, need_of}
use Rattle.items.specs.declared.Item.TheVariants.{Push, Pop, Unknown}
use Rattle.color.specs.declared.Color.{Color}
use Rattle.draw.specs.Parts.{reach_all}
use Rattle.line.specs.Polylines.{chain_of}
use lib.Ieee.{Float}
use Rattle.items.proofs.PolyPoints.{coords_length}

-- a kind that is none of 3 to 8
pub no_shape : (b : List ℕ)
    → (((((Unit {0} × (kind_at b 0 ≡ 3 → ⊥)) × (kind_at b 0 ≡ 4 → ⊥)) × (kind_at b 0 ≡ 5 → ⊥)) × (kind_at b 0 ≡ 6 → ⊥)) × (kind_at b 0 ≡ 7 → ⊥)) × (kind_at b 0 ≡ 8 → ⊥)
    → no_box ≡ reach_of b (item_of b)
unfolding read_item reach_of
no_shape b other =
    rw (
      ne_eqb (kind_at b 0) 3 other.0.0.0.0.0.1,
      ne_eqb (kind_at b 0) 4 other.0.0.0.0.1,
      ne_eqb (kind_at b 0) 5 other.0.0.0.1,
      ne_eqb (kind_at b 0) 6 other.0.0.1,
      ne_eqb (kind_at b 0) 7 other.0.1,
      ne_eqb (kind_at b 0) 8 other.1,
    )
    (go (eqb (kind_at b 0) 1) (eqb (kind_at b 0) 2))
  where
    go : (p q : Bool) → no_box ≡ reach_of b (cond p (Push (read_rect b 4)) (cond q Pop Unknown))
    go true q = refl
    go false true = refl
    go false false = refl

-- a kind that is not 6
pub no_polygon : (b : List ℕ) → (kind_at b 0 ≡ 6 → ⊥) → 0 ≡ need_of b (item_of b)
unfolding read_item need_of
no_polygon b other =
    let is : ℕ → Bool = λ n. eqb (kind_at b 0) n in
    rw (ne_eqb (kind_at b 0) 6 other) (go (is 1) (is 2) (is 3) (is 4) (is 5) (is 7) (is 8))
  where
    go : (p q r s t u v : Bool) → 0 ≡ need_of b (cond p (Push (read_rect b 4)) (cond q Pop (cond r (read_fill b 0) (cond s (read_stroke b 0) (cond t (read_line b 0) (cond u (read_shadow b 0) (cond v (read_chain b 0) Unknown)))))))
    go true q r s t u v = refl
    go false true r s t u v = refl
    go false false true s t u v = refl
    go false false false true t u v = refl
    go false false false false true u v = refl
    go false false false false false true v = refl
    go false false false false false false true = refl
    go false false false false false false false = refl

-- more than 64 points
module _ (b : List ℕ) (m : ℕ) (h : 64 < m) where
  many : poly_ok (points_of b m) ≡ false
  unfolding poly_ok points_ok
  many =
      let long : 128 < 2 * m = omega arith in
      rw (coords_length b 32 (2 * m), lt-leb (2 * m) 128 long) (none (eqb (2 * m % 2) 0) (coords_ok (points_of b m)))
    where
      none : (p q : Bool) → p && false && q ≡ false
      none true q = refl
      none false q = refl

  pub many_reach : no_box ≡ reach_in (points_of b m)
  unfolding reach_in
  many_reach = rw many

  pub many_need : 0 ≡ need_in (points_of b m)
  unfolding need_in
  many_need = rw many

-- the lines of a chain, of more than 64 points and of others
module _ (b : List ℕ) (width : Float) (c : Color) (m : ℕ) where
  pub many_chain : 64 < m → no_box ≡ chain_reach b width c m
  many_chain h = rw (lt-leb m 64 h)

  pub few_chain : m ≤ 64 → reach_all (chain_of (joints_of b m) width c) ≡ chain_reach b width c m
  few_chain h = rw (le-leb m 64 h)
