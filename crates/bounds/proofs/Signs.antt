-- Small signed numbers: an i32 keeps them, their sums and their differences. Assumes nothing.
use mathlib.Core.Path.{◌≡◌}
use Prim.Native.Nat.{◌≤◌}
use native.Mathlib.Nat.{lt_of_le_of_lt, le_refl}
use native.Mathlib.Omega.{arith}
use lib.Dec.{lit<}
use lib.IntN.{ℤ, pos, negsuc, nat_abs, ◌+ℤ◌, ◌-ℤ◌}
use mir.Syntax.{w32}
use mir.Val.{SFits, to_z, of_z}
use Rattle.mathf.proofs.Ints.{sum_size, difference_size, small_fits, small_back}
use Rattle.geom.specs.Int.{up}

-- what is stored is read again; of a natural number n, `of_z w32 (pos n)` is n
pub back : (z : ℤ) → nat_abs z ≤ 65536 → to_z w32 (of_z w32 z) ≡ z
back z h = small_back (lt_of_le_of_lt h (lit< tt))

module _ (a b : ℤ) (h : nat_abs a ≤ 16386) (k : nat_abs b ≤ 16386) where
  pub sum_small : nat_abs (a +ℤ b) ≤ 65536
  sum_small = let s = sum_size a b in omega arith

  pub sum_fits : SFits w32 (a +ℤ b)
  sum_fits = small_fits (lt_of_le_of_lt sum_small (lit< tt))

  pub difference_small : nat_abs (a -ℤ b) ≤ 65536
  difference_small = let s = difference_size a b in omega arith

  pub difference_fits : SFits w32 (a -ℤ b)
  difference_fits = small_fits (lt_of_le_of_lt difference_small (lit< tt))

pub up_size : (z : ℤ) → up z ≤ nat_abs z
up_size (pos n) = le_refl n
up_size (negsuc n) = omega arith
