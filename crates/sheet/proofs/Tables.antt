-- The tables of kinds, at a number that no kind has. Assumes nothing.
use Prim.Native.Nat.{ℕ}
use mathlib.Core.Path.{◌≡◌, refl, sym, ap, ◌∙◌}
use mathlib.Core.Bool.{true, false, false≢true}
use mathlib.Core.List.{[], ◌∷◌}
use borrow.Author.Tests.{ne_eqb}
use Rattle.sheet.specs.Bytes.{lookup}
use Rattle.sheet.specs.Kinds.{known}

other : (k i : ℕ) → known k ≡ false → known i ≡ true → k ≡ i → ⊥
other k i u v e = false≢true (sym u ∙ ap known e ∙ v)

pub no_kind : {A : Type 0} (k : ℕ) (a b c d e f g h z : A) → known k ≡ false
    → lookup k ((1, a) ∷ (2, b) ∷ (3, c) ∷ (4, d) ∷ (5, e) ∷ (6, f) ∷ (7, g) ∷ (8, h) ∷ []) z ≡ z
no_kind k a b c d e f g h z u =
    simp (
      ne_eqb k 1 (other k 1 u refl),
      ne_eqb k 2 (other k 2 u refl),
      ne_eqb k 3 (other k 3 u refl),
      ne_eqb k 4 (other k 4 u refl),
      ne_eqb k 5 (other k 5 u refl),
      ne_eqb k 6 (other k 6 u refl),
      ne_eqb k 7 (other k 7 u refl),
      ne_eqb k 8 (other k 8 u refl),
    )
