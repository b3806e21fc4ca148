-- Laws of `onto`, a pixel function put to the pixels at the places of a set.
--     length_onto, get_d_onto     its length and its pixels
--     onto_none, onto_one        no place; one place, which a store fills
--     onto_join                  a set and then another, of which neither holds a place of the other
--     onto_same                  another function that agrees there
--     onto_count                 how many places a set and then another alter
-- Assumes nothing.
use mathlib.Core.Path.{◌≡◌, refl, sym, ap, ◌∙◌}
use mathlib.Core.List.{List, [], ◌∷◌}
use mathlib.Core.Logic.{◌⊎◌, inl, inr}
use mathlib.Core.Bool.{Bool, true, false, cond, ◌&&◌, ◌||◌}
use Prim.Native.Nat.{ℕ, zero, suc, ◌+◌, ◌<◌}
use native.Mathlib.Nat.{not-suc-le-zero, le_of_suc-le-suc, add-zero, zero-add, add-suc, suc-add}
use native.Mathlib.Omega.{arith}
use lib.Dec.{eqb}
use lib.ListN.{length, get_or, set, length-set}
use lib.Seq.{ext_get_or, get_or-set_same, get_or-set_other}
use borrow.Author.Tests.{eqb-true, eqb-false}
use Rattle.draw.specs.Draw.{each_at, onto, differ}
use Rattle.draw.proofs.Counts.{differ_join}

length_each_at : (f : ℕ → ℕ → ℕ) (i : ℕ) (px : List ℕ) → length (each_at f i px) ≡ length px
unfolding each_at
length_each_at f i [] = refl
length_each_at f i (p ∷ ps) = ap suc (length_each_at f (suc i) ps)

get_d_each_at : (f : ℕ → ℕ → ℕ) (i : ℕ) (px : List ℕ) (k : ℕ) → k < length px → get_or (each_at f i px) k 0 ≡ f (i + k) (get_or px k 0)
unfolding each_at
get_d_each_at f i [] k h = absurd (not-suc-le-zero h)
get_d_each_at f i (p ∷ ps) zero h = rw add-zero
get_d_each_at f i (p ∷ ps) (suc k) h = get_d_each_at f (suc i) ps k (le_of_suc-le-suc h) ∙ rw (suc-add, add-suc)

module _ (s : ℕ → Bool) (f : ℕ → ℕ → ℕ) (px : List ℕ) where
  pub length_onto : length (onto s f px) ≡ length px
  unfolding onto
  length_onto = length_each_at (λ i p. cond (s i) (f i p) p) 0 px

  pub get_d_onto : (k : ℕ) → k < length px → get_or (onto s f px) k 0 ≡ cond (s k) (f k (get_or px k 0)) (get_or px k 0)
  unfolding onto
  get_d_onto k h = get_d_each_at (λ i p. cond (s i) (f i p) p) 0 px k h ∙ rw zero-add

  -- a list is `onto s f px` where its every pixel is
  pub onto_is : (ys : List ℕ) → length ys ≡ length px
      → ((k : ℕ) → k < length px → get_or ys k 0 ≡ cond (s k) (f k (get_or px k 0)) (get_or px k 0)) → ys ≡ onto s f px
  onto_is ys e h =
      ext_get_or 0 ys (onto s f px) (e ∙ sym length_onto) (λ k l. let l' : k < length px = omega (arith, e) in h k l' ∙ sym (get_d_onto k l'))

  pub onto_none : ((k : ℕ) → k < length px → s k ≡ false) → px ≡ onto s f px
  onto_none h = onto_is px refl (λ k l. rw (h k l))

  -- the store of the one pixel of the set
  pub onto_one : (k : ℕ) → k < length px → ((j : ℕ) → j < length px → s j ≡ eqb j k) → set px k (f k (get_or px k 0)) ≡ onto s f px
  onto_one k h e = onto_is (set px k v) (length-set px k v) (λ j l. rw (e j l) (at j (eqb j k) refl))
    where
      v : ℕ
      v = f k (get_or px k 0)

      at : (j : ℕ) (t : Bool) → eqb j k ≡ t → get_or (set px k v) j 0 ≡ cond t (f j (get_or px j 0)) (get_or px j 0)
      at j true q = rw (eqb-true j k q) (get_or-set_same px k v 0 h)
      at j false q = get_or-set_other px k j v 0 (eqb-false j k q)

-- another function, which agrees at the places of the set
pub onto_same : (s : ℕ → Bool) (f g : ℕ → ℕ → ℕ) (px : List ℕ) → ((k p : ℕ) → k < length px → s k ≡ true → f k p ≡ g k p) → onto s f px ≡ onto s g px
onto_same s f g px h =
    onto_is s g px (onto s f px) (length_onto s f px) (λ k l. get_d_onto s f px k l ∙ at k l (s k) refl)
  where
    at : (k : ℕ) → k < length px → (t : Bool) → s k ≡ t → cond t (f k (get_or px k 0)) (get_or px k 0) ≡ cond t (g k (get_or px k 0)) (get_or px k 0)
    at k l true q = h k (get_or px k 0) l q
    at k l false q = refl

-- the places of t after those of s: u has both, and no place is in both
pub onto_join : (s t u : ℕ → Bool) (f : ℕ → ℕ → ℕ) (px : List ℕ) → ((k : ℕ) → (s k && t k) ≡ false) → ((k : ℕ) → (s k || t k) ≡ u k)
    → onto t f (onto s f px) ≡ onto u f px
onto_join s t u f px d e =
    onto_is u f px (onto t f (onto s f px)) (length_onto t f (onto s f px) ∙ length_onto s f px)
    (λ k l. get_d_onto t f (onto s f px) k (omega (arith, length_onto s f px)) ∙ rw (get_d_onto s f px k l, ← e k) (at (f k) (get_or px k 0) (s k) (t k) (d k)))
  where
    at : (g : ℕ → ℕ) (p : ℕ) (a b : Bool) → (a && b) ≡ false → cond b (g (cond a (g p) p)) (cond a (g p) p) ≡ cond (a || b) (g p) p
    at g p true true q = let z : ◌≡◌ {A = ℕ} 0 1 = cc in absurd (omega arith)
    at g p true false q = refl
    at g p false true q = refl
    at g p false false q = refl

-- the places of t after those of s, where no place is in both: the counts add up
pub onto_count : (s t : ℕ → Bool) (f g : ℕ → ℕ → ℕ) (px : List ℕ) → ((k : ℕ) → (s k && t k) ≡ false)
    → differ px (onto t g (onto s f px)) ≡ differ px (onto s f px) + differ (onto s f px) (onto t g (onto s f px))
onto_count s t f g px d =
    differ_join px (onto s f px) (onto t g (onto s f px)) (length_onto s f px) (length_onto t g (onto s f px) ∙ length_onto s f px)
    (λ k l. at k l (s k) (t k) refl refl (d k))
  where
    at : (k : ℕ) → k < length px → (a b : Bool) → s k ≡ a → t k ≡ b → (a && b) ≡ false
        → (get_or (onto s f px) k 0 ≡ get_or px k 0) ⊎ (get_or (onto t g (onto s f px)) k 0 ≡ get_or (onto s f px) k 0)
    at k l false b p q z = inl (get_d_onto s f px k l ∙ rw p)
    at k l true true p q z = let z' : ◌≡◌ {A = ℕ} 0 1 = cc in absurd (omega arith)
    at k l true false p q z = inr (get_d_onto t g (onto s f px) k (omega (arith, length_onto s f px)) ∙ rw q)

-- a function that leaves every pixel
pub onto_idle : (s : ℕ → Bool) (px : List ℕ) → px ≡ onto s (λ i p. p) px
onto_idle s px = onto_is s (λ i p. p) px px refl (λ k l. at (s k) (get_or px k 0))
  where
    at : (t : Bool) (p : ℕ) → p ≡ cond t p p
    at true p = refl
    at false p = refl
