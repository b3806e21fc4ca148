-- The coordinates of a polygon's or a chain's points, as a list. Assumes nothing.
use Prim.Native.Nat.{ℕ, zero, suc, ◌+◌, ◌*◌, ◌≤◌}
use mathlib.Core.Path.{◌≡◌, refl, ap}
use mathlib.Core.Bool.{true}
use mathlib.Core.List.{List, [], ◌∷◌, ◌++◌}
use native.Mathlib.Numerals.{add-one}
use native.Mathlib.Omega.{arith}
use lib.Ieee.{Float}
use lib.ListN.{length, take}
use Rattle.geom.proofs.Bools.{and_left, and_right, and_both}
use Rattle.gfx.specs.Points.{coords_ok}
use Rattle.sheet.specs.Bytes.{float_at, float_ok_at, all_at, floats}
use Rattle.items.specs.Items.{coords_from}

-- one more
more : (s : List ℕ) (n p q : ℕ) → p + 4 * n ≡ q → coords_from s p (suc n) ≡ coords_from s p n ++ (float_at s q ∷ [])
unfolding coords_from
more s zero p q e = let r : p ≡ q = omega arith in rw r
more s (suc n) p q e = ap (λ (xs : List Float). float_at s p ∷ xs) (more s n (p + 4) q (omega arith))

pub coords_more : (s : List ℕ) (p n : ℕ) → coords_from s p (n + 1) ≡ coords_from s p n ++ (float_at s (p + 4 * n) ∷ [])
coords_more s p n = rw (add-one n) (more s n p (p + 4 * n) refl)

pub coords_length : (s : List ℕ) (p n : ℕ) → length (coords_from s p n) ≡ n
unfolding coords_from
coords_length s p zero = refl
coords_length s p (suc n) = ap suc (coords_length s (p + 4) n)

-- the first n of more
pub coords_take : (s : List ℕ) (p n m : ℕ) → n ≤ m → take n (coords_from s p m) ≡ coords_from s p n
unfolding coords_from
coords_take s p zero m h = refl
coords_take s p (suc n) zero h = absurd (omega arith)
coords_take s p (suc n) (suc m) h = ap (λ (xs : List Float). float_at s p ∷ xs) (coords_take s (p + 4) n m (omega arith))

-- those that pass 6
pub coords_ok_lem : (s : List ℕ) (p n : ℕ) → floats s p n ≡ true → coords_ok (coords_from s p n) ≡ true
unfolding coords_from coords_ok all_at
coords_ok_lem s p zero e = refl
coords_ok_lem s p (suc n) e =
    and_both (and_left (float_ok_at s p) (floats s (p + 4) n) e) (coords_ok_lem s (p + 4) n (and_right (float_ok_at s p) _ e))
