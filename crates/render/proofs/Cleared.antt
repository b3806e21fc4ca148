-- Scratch words that are set to +0. Assumes nothing.
use Prim.Native.Nat.{ℕ, zero, suc, ◌≤◌, max}
use mathlib.Core.Path.{◌≡◌, refl, ap}
use mathlib.Core.List.{List, [], ◌∷◌}
use native.Mathlib.Omega.{arith}
use lib.Ieee.{Float}
use lib.ListN.{length, length-append, length-replicate, length-drop}
use lib.Seq.{drop-nil}
use Rattle.mathf.specs.F32.{f0}
use Rattle.poly.specs.Poly.{cleared}

pub cleared_length : (n : ℕ) (s : List Float) → n ≤ length s → length (cleared n s) ≡ length s
unfolding cleared
cleared_length n s h = rw (length-append, length-replicate, length-drop) (omega arith)

pub cleared_none : (s : List Float) → cleared 0 s ≡ s
unfolding cleared
cleared_none s = refl

-- twice, as many as the more
pub cleared_twice : (m n : ℕ) (s : List Float) → cleared n (cleared m s) ≡ cleared (max m n) s
unfolding cleared
cleared_twice m zero s = let e : max m 0 ≡ m = omega arith in rw e
cleared_twice zero (suc n) s = let e : max 0 (suc n) ≡ suc n = omega arith in rw e
cleared_twice (suc m) (suc n) [] =
    let e : max (suc m) (suc n) ≡ suc (max m n) = omega arith in
    rw (e) (ap (λ (r : List Float). f0 ∷ r) (rw (drop-nil m, drop-nil (max m n)) at (cleared_twice m n [])))
cleared_twice (suc m) (suc n) (x ∷ s) =
    let e : max (suc m) (suc n) ≡ suc (max m n) = omega arith in
    rw (e) (ap (λ (r : List Float). f0 ∷ r) (cleared_twice m n s))
