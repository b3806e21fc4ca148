-- Laws of `differ`, the count of places at which two lists differ.
--     differ_same    a list differs from itself nowhere
--     differ_one     a store differs at its place at most
--     differ_join    of two changes, of which no place has both, the counts add up
--     differ_most    no more than there are places, and at one place no more than 1 (one_most)
--     differ_none    lists that differ nowhere are equal
-- Assumes nothing.
use mathlib.Core.Path.{◌≡◌, refl, sym}
use mathlib.Core.List.{List, [], ◌∷◌}
use mathlib.Core.Logic.{◌⊎◌, inl, inr}
use mathlib.Core.Bool.{Bool, true, false, cond}
use Prim.Native.Nat.{ℕ, zero, suc, ◌+◌, ◌≤◌, ◌<◌, suc-le-suc}
use native.Mathlib.Nat.{not-suc-le-zero, le_of_suc-le-suc, suc_inj, suc-ne-zero, zero-lt-suc, add-zero, zero-add}
use native.Mathlib.Omega.{arith}
use lib.Dec.{eqb, lit≤}
use lib.ListN.{length, get_or, set}
use borrow.Author.Tests.{eq-eqb, eqb-true}
use Rattle.draw.specs.Draw.{differ}

pub differ_same : (ps : List ℕ) → differ ps ps ≡ 0
unfolding differ
differ_same [] = refl
differ_same (p ∷ ps) = rw (eq-eqb p p refl, differ_same ps)

pub differ_one : (ps : List ℕ) (i v : ℕ) → i < length ps → differ ps (set ps i v) ≡ cond (eqb v (get_or ps i 0)) 0 1
unfolding differ
differ_one [] i v h = absurd (not-suc-le-zero h)
differ_one (p ∷ ps) zero v h = let e = differ_same ps in omega arith
differ_one (p ∷ ps) (suc i) v h = rw (eq-eqb p p refl, differ_one ps i v (le_of_suc-le-suc h), zero-add)

pub one_most : (t : Bool) → cond t 0 1 ≤ 1
one_most true = lit≤ tt
one_most false = lit≤ tt

-- one place: p becomes q, and then r, by one change at most
one_place : (p q r : ℕ) → (q ≡ p) ⊎ (r ≡ q) → cond (eqb r p) 0 1 ≡ cond (eqb q p) 0 1 + cond (eqb r q) 0 1
one_place p q r (inl e) = rw (e, eq-eqb p p refl, zero-add)
one_place p q r (inr e) = rw (e, eq-eqb q q refl, add-zero)

pub differ_join : (ps qs rs : List ℕ) → length qs ≡ length ps → length rs ≡ length ps
    → ((k : ℕ) → k < length ps → (get_or qs k 0 ≡ get_or ps k 0) ⊎ (get_or rs k 0 ≡ get_or qs k 0))
    → differ ps rs ≡ differ ps qs + differ qs rs
unfolding differ
differ_join [] [] rs l m h = refl
differ_join [] (q ∷ qs) rs l m h = absurd (suc-ne-zero (length qs) l)
differ_join (p ∷ ps) [] rs l m h = absurd (suc-ne-zero (length ps) (sym l))
differ_join (p ∷ ps) (q ∷ qs) [] l m h = absurd (suc-ne-zero (length ps) (sym m))
differ_join (p ∷ ps) (q ∷ qs) (r ∷ rs) l m h =
    let here = one_place p q r (h zero (zero-lt-suc (length ps))) in
    let rest = differ_join ps qs rs (suc_inj l) (suc_inj m) (λ k b. h (suc k) (suc-le-suc b)) in
    omega (arith, here, rest)

pub differ_most : (ps qs : List ℕ) → differ ps qs ≤ length ps
unfolding differ
differ_most [] qs = omega arith
differ_most (p ∷ ps) [] = omega arith
differ_most (p ∷ ps) (q ∷ qs) = let rest = differ_most ps qs in let here = one_most (eqb q p) in omega (arith, rest, here)

pub differ_none : (ps qs : List ℕ) → length qs ≡ length ps → differ ps qs ≡ 0 → qs ≡ ps
unfolding differ
differ_none [] [] l e = refl
differ_none [] (q ∷ qs) l e = absurd (suc-ne-zero (length qs) l)
differ_none (p ∷ ps) [] l e = absurd (suc-ne-zero (length ps) (sym l))
differ_none (p ∷ ps) (q ∷ qs) l e = at (eqb q p) refl (omega arith) (λ z. differ_none ps qs (suc_inj l) z)
  where
    at : (t : Bool) → eqb q p ≡ t → cond t 0 1 + differ ps qs ≡ 0 → (differ ps qs ≡ 0 → qs ≡ ps) → q ∷ qs ≡ p ∷ ps
    at true t z rest = rw (eqb-true q p t, rest (omega arith))
    at false t z rest = absurd (omega arith)
