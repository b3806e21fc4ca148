-- A float below 1 is the whole number 0. Assumes nothing.
use mathlib.Core.Path.{◌≡◌, refl}
use mathlib.Core.Bool.{true, false}
use Prim.Native.Nat.{ℕ, ◌<◌, min}
use native.Mathlib.Omega.{arith}
use lib.Dec.{T}
use lib.IntN.{pos}
use lib.Ieee.{Float, nan, inf, fin, lt, of_bits, to_unsigned}
use Rattle.mathf.specs.F32.{◌<ᶠ◌, f1}
use Rattle.mathf.specs.Convert.{to_u32}
use Rattle.mathf.proofs.Saturating.{passed, under}

none : (a c : ℕ) → a < 1 → 0 ≡ min a c
none a c h = omega arith

none_below : (x : Float) → T (lt x (fin false 1 (pos 0))) → 0 ≡ to_unsigned 32 x
unfolding lt to_unsigned
none_below nan t = absurd t
none_below (inf true) t = refl
none_below (inf false) t = absurd t
none_below (fin true m e) t = refl
none_below (fin false m e) t = none _ _ (under m e 0 t)

pub below_one : (x : Float) → (x <ᶠ f1) ≡ true → 0 ≡ to_u32 x
unfolding of_bits
below_one x h = none_below x (passed h)
