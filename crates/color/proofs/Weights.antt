-- n parts of two numbers: p of x and q of y. Assumes nothing.
use mathlib.Core.Path.{◌≡◌}
use Prim.Native.Nat.{ℕ, ◌+◌, ◌*◌, ◌≤◌}
use native.Mathlib.Nat.{mul-add, mul-le-mul_right}
use native.Mathlib.Omega.{arith}

module _ (n m x y p q : ℕ) (e : p + q ≡ n) where
  -- of numbers up to m, and from m up
  pub weighted_le : x ≤ m → y ≤ m → x * p + y * q ≤ m * n
  weighted_le i j = rw (← e, mul-add) (omega (arith, mul-le-mul_right p i, mul-le-mul_right q j))

  pub weighted_ge : m ≤ x → m ≤ y → m * n ≤ x * p + y * q
  weighted_ge i j = rw (← e, mul-add) (omega (arith, mul-le-mul_right p i, mul-le-mul_right q j))
