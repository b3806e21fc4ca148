-- The sectors of the hues, as a match on an i32 meets them: by the number's bits. Assumes nothing.
use mathlib.Core.Path.{◌≡◌, refl, ap}
use Prim.Native.Nat.{ℕ, ◌<◌}
use native.Mathlib.Omega.{arith}
use borrow.Author.Tests.{ne_eqb}
use lib.IntN.{ℤ, pos, negsuc}
use lib.Ieee.{Float}
use lib.Signed.{mag}
use mir.Syntax.{w32}
use mir.Val.{of_z}
use Rattle.color.specs.Colours.{tones_of, sector_of}

pub sector_is : (z : ℤ) (n : ℕ) → mag z < 2147483648 → n < 2147483648 → of_z w32 z ≡ n → z ≡ pos n
sector_is (pos m) n h k e = ap pos e
sector_is (negsuc m) n h k e = absurd (omega arith)

pub sector_last :
    (z : ℤ) (v p q t : Float) → (of_z w32 z ≡ 0 → ⊥) → (of_z w32 z ≡ 1 → ⊥) → (of_z w32 z ≡ 2 → ⊥) → (of_z w32 z ≡ 3 → ⊥) → (of_z w32 z ≡ 4 → ⊥) → sector_of z v p q t ≡ tones_of v p q
unfolding sector_of
sector_last (pos n) v p q t n0 n1 n2 n3 n4 = simp (ne_eqb n 0 n0, ne_eqb n 1 n1, ne_eqb n 2 n2, ne_eqb n 3 n3, ne_eqb n 4 n4)
sector_last (negsuc n) v p q t n0 n1 n2 n3 n4 = refl
