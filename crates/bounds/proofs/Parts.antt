-- Sums and differences of signed numbers by their parts above and below 0. Assumes nothing.
use mathlib.Core.Path.{◌≡◌}
use mathlib.Core.Bool.{cond}
use Prim.Native.Nat.{ℕ, zero, suc, ◌+◌, ◌-◌, min}
use native.Mathlib.Omega.{arith}
use lib.Dec.{ltb}
use lib.IntN.{ℤ, pos, negsuc, sub_ℕ, ◌+ℤ◌, ◌-ℤ◌}
use borrow.Author.Tests.{ltb-true, ltb-false}
use Rattle.geom.specs.Int.{up, down}
use Rattle.geom.proofs.Bools.{split}

-- ---- sums and differences of signed numbers, as `omega` reads them

pub one_sided : (z : ℤ) → min (up z) (down z) ≡ 0
one_sided (pos n) = omega arith
one_sided (negsuc n) = omega arith

sub_parts : (a b : ℕ) → up (sub_ℕ a b) + b ≡ a + down (sub_ℕ a b)
sub_parts a b =
    split (ltb a b) (λ t. up (cond t (negsuc (b - suc a)) (pos (a - b))) + b ≡ a + down (cond t (negsuc (b - suc a)) (pos (a - b))))
    (λ e. omega (arith, ltb-true a b e)) (λ e. omega (arith, ltb-false a b e))

pub sum_parts : (a b : ℤ) → up (a +ℤ b) + down a + down b ≡ up a + up b + down (a +ℤ b)
sum_parts (pos a) (pos b) = omega arith
sum_parts (pos a) (negsuc b) = omega (arith, sub_parts a (suc b))
sum_parts (negsuc a) (pos b) = omega (arith, sub_parts b (suc a))
sum_parts (negsuc a) (negsuc b) = omega arith

pub difference_parts : (a b : ℤ) → up (a -ℤ b) + down a + up b ≡ up a + down b + down (a -ℤ b)
difference_parts a (pos zero) = sum_parts a (pos zero)
difference_parts a (pos (suc n)) = sum_parts a (negsuc n)
difference_parts a (negsuc n) = sum_parts a (pos (suc n))
