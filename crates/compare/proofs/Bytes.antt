-- Two runs of bytes: `==` of them is `same_bytes`; lengths that differ; and one byte after another, a turn and the end. Assumes nothing.
use Rattle.std.proofs.Common.{ℕ, suc, ◌+◌, ◌<◌, ◌≤◌, ◌≡◌, List, [], ◌∷◌, Bool, false, ◌&&◌, refl, sym, ap, eqb, length, get_or, drop, add-one}
use mathlib.Core.Bool.{and-true, and-false, and_assoc}
use lib.ListN.{drop_of_length-le}
use lib.Seq.{drop-cons}
use Rattle.std.specs.Str.{bytes_eq}
use Rattle.items.specs.Format.{same_bytes}

pub eq_same : (a b : List ℕ) → bytes_eq a b ≡ same_bytes a b
unfolding same_bytes
eq_same [] [] = refl
eq_same [] (y ∷ b) = refl
eq_same (x ∷ a) [] = refl
eq_same (x ∷ a) (y ∷ b) = ap (λ t. eqb x y && t) (eq_same a b)

pub lengths_differ : (a b : List ℕ) → (length a ≡ length b → ⊥) → same_bytes a b ≡ false
unfolding same_bytes
lengths_differ [] [] h = absurd (h refl)
lengths_differ [] (y ∷ b) h = refl
lengths_differ (x ∷ a) [] h = refl
lengths_differ (x ∷ a) (y ∷ b) h = rw (lengths_differ a b (λ e. h (ap suc e))) (and-false (eqb x y))

module _ (a b : List ℕ) (i : ℕ) where
  -- the two runs from the place i on
  abbrev From : ℕ → Bool
  From j = same_bytes (drop j a) (drop j b)

  -- with what is known of the bytes before it
  pub bytes_turn : (same : Bool) → i < length a → i < length b → same && From i ≡ (same && eqb (get_or a i 0) (get_or b i 0)) && From (i + 1)
  unfolding same_bytes
  bytes_turn same h k = rw (drop-cons a i 0 h, drop-cons b i 0 k, add-one) (sym (and_assoc same (eqb (get_or a i 0) (get_or b i 0)) (From (suc i))))

  pub bytes_done : (same : Bool) → length a ≤ i → length b ≤ i → same && From i ≡ same
  unfolding same_bytes
  bytes_done same h k = rw (drop_of_length-le a h, drop_of_length-le b k) (and-true same)
