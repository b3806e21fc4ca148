-- A signed number that was stored and read again is the number. A need has a signed parameter, field or result z as `to_z w32 (of_z w32 z)`,
-- and these laws take that away. Assumes nothing.
use mathlib.Core.Path.{◌≡◌, refl, sym, ◌∙◌}
use mathlib.Core.Bool.{true, false, true≢false}
use Prim.Native.Nat.{suc, ◌<◌, ◌-◌}
use native.Mathlib.Omega.{arith}
use native.Mathlib.Nat.{not-suc-le-zero}
use borrow.Author.Tests.{ltb-true, eqb-true, eq-eqb, ne_eqb}
use lib.Dec.{T, eqb}
use lib.IntN.{ℤ, pos, negsuc, nat_abs}
use lib.Signed.{mag, lt_z, non_neg}
use mir.Syntax.{w32, w64}
use mir.Val.{Fits, to_z, of_z}
use mir.ValLaws.{to_z-of_z}
use Rattle.geom.proofs.Bools.{same_test}
use Rattle.std.specs.Int.{int_max, int_min}
use Rattle.geom.specs.Int.{up, eq_z, max_z, min_z}
use Rattle.geom.proofs.Int.{max_is, min_is}

-- z as a need has it
abbrev pub Kept : ℤ → Type 0
Kept z = to_z w32 (of_z w32 z) ≡ z

pub kept : (z : ℤ) → mag z < 2147483648 → Kept z
kept z h = to_z-of_z w32 z (record { sfits = h })

-- `a.max(b)` and `a.min(b)` of two such numbers
module _ {r a b : ℤ} (h : Kept a) (k : Kept b) where
  pub larger : r ≡ int_max (to_z w32 (of_z w32 a)) (to_z w32 (of_z w32 b)) → r ≡ max_z a b
  larger e = rw (h, k) at e ∙ max_is a b

  pub smaller : r ≡ int_min (to_z w32 (of_z w32 a)) (to_z w32 (of_z w32 b)) → r ≡ min_z a b
  smaller e = rw (h, k) at e ∙ min_is a b

-- a test `a == b` is one of the two numbers' bits
pub eq_bits : (a b : ℤ) → mag a < 2147483648 → mag b < 2147483648 → eqb (of_z w32 a) (of_z w32 b) ≡ eq_z a b
eq_bits (pos a) (pos b) h k = refl
eq_bits (pos a) (negsuc b) h k = ne_eqb a (4294967296 - suc b) (λ e. omega arith)
eq_bits (negsuc a) (pos b) h k = ne_eqb (4294967296 - suc a) b (λ e. omega arith)
eq_bits (negsuc a) (negsuc b) h k =
    same_test (eqb (4294967296 - suc a) (4294967296 - suc b)) (eqb a b)
    (λ e. eq-eqb a b (omega (arith, eqb-true (4294967296 - suc a) (4294967296 - suc b) e)))
    (λ e. eq-eqb (4294967296 - suc a) (4294967296 - suc b) (omega (arith, eqb-true a b e)))

module _ (a b : ℤ) (h : mag a < 2147483648) (k : mag b < 2147483648) where
  pub eq_yes : of_z w32 a ≡ of_z w32 b → eq_z a b ≡ true
  eq_yes e = sym (eq_bits a b h k) ∙ eq-eqb (of_z w32 a) (of_z w32 b) e

  pub eq_no : (of_z w32 a ≡ of_z w32 b → ⊥) → eq_z a b ≡ false
  eq_no e = sym (eq_bits a b h k) ∙ ne_eqb (of_z w32 a) (of_z w32 b) e

-- `z as usize` of a number that is not negative, and what it gives
pub cast_nat : (z : ℤ) → mag z < 2147483648 → lt_z z (pos 0) ≡ false → T (non_neg z) × Fits w64 (nat_abs z)
cast_nat (pos n) h e = (tt, record { fits = omega arith })
cast_nat (negsuc n) h e = absurd (true≢false e)

pub nat_is : (z : ℤ) → lt_z z (pos 0) ≡ false → nat_abs z ≡ up z
nat_is (pos n) e = refl
nat_is (negsuc n) e = absurd (true≢false e)

pub nat_none : (z : ℤ) → lt_z z (pos 0) ≡ true → 0 ≡ up z
nat_none (pos n) e = absurd (not-suc-le-zero (ltb-true n 0 e))
nat_none (negsuc n) e = refl
