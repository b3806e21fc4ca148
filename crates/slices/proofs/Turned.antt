-- A slice as a loop leaves it after its first elements: the answers so far, then what stood there. Assumes nothing.
use Rattle.std.proofs.Common.{◌≡◌, refl, ap, ◌∙◌, List, [], ◌∷◌, map, ℕ, zero, suc, ◌+◌, ◌<◌, add-one, not-suc-le-zero, arith, length, get_or, set}
use borrow.Author.Tests.{eq-eqb, ne_eqb}
use Rattle.slices.specs.Each.{each}

module _ {ℓ ℓ'} {A : Type ℓ} {B : Type ℓ'} (f : A → B) where
  unfoldable pub turned : ℕ → List A → List B → List B
  turned zero xs out = out
  turned (suc i) [] out = out
  turned (suc i) (x ∷ xs) [] = []
  turned (suc i) (x ∷ xs) (o ∷ out) = f x ∷ turned i xs out

  pub turned_none : (xs : List A) (out : List B) → out ≡ turned 0 xs out
  unfolding turned
  turned_none xs out = refl

  -- what stands at i is still the old element
  pub turned_at : (i : ℕ) (xs : List A) (out : List B) (d : B) → get_or (turned i xs out) i d ≡ get_or out i d
  unfolding turned
  turned_at zero xs out d = refl
  turned_at (suc i) [] out d = refl
  turned_at (suc i) (x ∷ xs) [] d = refl
  turned_at (suc i) (x ∷ xs) (o ∷ out) d = turned_at i xs out d

  pub turned_length : (i : ℕ) (xs : List A) (out : List B) → length (turned i xs out) ≡ length out
  unfolding turned
  turned_length zero xs out = refl
  turned_length (suc i) [] out = refl
  turned_length (suc i) (x ∷ xs) [] = refl
  turned_length (suc i) (x ∷ xs) (o ∷ out) = ap suc (turned_length i xs out)

  one_more : (i : ℕ) (xs : List A) (out : List B) (d : A) → i < length xs → set (turned i xs out) i (f (get_or xs i d)) ≡ turned (suc i) xs out
  unfolding turned
  one_more i [] out d h = absurd (not-suc-le-zero h)
  one_more zero (x ∷ xs) [] d h = refl
  one_more zero (x ∷ xs) (o ∷ out) d h = refl
  one_more (suc i) (x ∷ xs) [] d h = refl
  one_more (suc i) (x ∷ xs) (o ∷ out) d h = ap (λ l. f x ∷ l) (one_more i xs out d (omega arith))

  all_of : (xs : List A) (out : List B) → length xs ≡ length out → turned (length xs) xs out ≡ map f xs
  unfolding turned
  all_of [] [] e = refl
  all_of [] (o ∷ out) e = absurd (omega arith)
  all_of (x ∷ xs) [] e = absurd (omega arith)
  all_of (x ∷ xs) (o ∷ out) e = ap (λ l. f x ∷ l) (all_of xs out (omega arith))

  -- the element at i is set to its answer
  pub turned_more : {i : ℕ} {now : List B} {v : B} (xs : List A) (old : List B) (d : A) → now ≡ turned i xs old → i < length xs → v ≡ f (get_or xs i d)
      → set now i v ≡ turned (i + 1) xs old
  turned_more {i} xs old d e h a = rw (e, a, add-one i) (one_more i xs old d h)

  pub turned_all : {i : ℕ} {now : List B} (xs : List A) (old : List B) → now ≡ turned i xs old → i ≡ length xs → length xs ≡ length old → now ≡ map f xs
  turned_all {i} xs old e h l = rw (e, h) (all_of xs old l)

  pub turned_each : {i : ℕ} {now : List B} (xs : List A) (old : List B) → now ≡ turned i xs old → i ≡ length xs → length xs ≡ length old → now ≡ each f xs old
  turned_each {i} xs old e h l = rw (eq-eqb (length xs) (length old) l) (turned_all xs old e h l)

  -- lists of two lengths: nothing is turned
  pub none_each : (xs : List A) (old : List B) → (length xs ≡ length old → ⊥) → old ≡ each f xs old
  none_each xs old h = rw (ne_eqb (length xs) (length old) h)

-- the same in place, where the element at i is still the old one
pub turned_in_place {ℓ} : {A : Type ℓ} (f : A → A) {i : ℕ} {now : List A} {v : A} (xs : List A) (d : A) → now ≡ turned f i xs xs → i < length xs → v ≡ f (get_or now i d)
    → set now i v ≡ turned f (i + 1) xs xs
turned_in_place f {i} xs d e h a =
    turned_more f xs xs d e h (a ∙ ap f (ap (λ l. get_or l i d) e ∙ turned_at f i xs xs d))
