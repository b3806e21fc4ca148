-- A lesser number has an order that stands before. Assumes nothing.
use Prim.Native.Nat.{ℕ, zero, suc, ◌+◌, ◌/◌, ◌%◌, ◌≤◌, ◌<◌}
use mathlib.Core.List.{List, [], ◌∷◌, ◌++◌}
use mathlib.Core.Logic.{⊎_elim, inl, inr}
use mathlib.Core.Path.{◌≡◌}
use native.Mathlib.Nat.{eq-or-lt_of_le}
use native.Mathlib.Omega.{arith}
use lib.ListN.{length, length-append}
use Rattle.orders.specs.Kinds.{kinds_in}
use Rattle.orders.specs.Every.{Lesser, here, later, Before}
use Rattle.orders.proofs.Digits.{kinds_none, kinds_suc, most}

-- items after the first that differ do not matter
lesser_more : {o p : List ℕ} (x y : List ℕ) → Lesser o p → Lesser (o ++ x) (p ++ y)
lesser_more x y (here h) = here h
lesser_more x y (later l) = later (lesser_more x y l)

lesser_last : (o : List ℕ) (a b : ℕ) → a < b → Lesser (o ++ (a ∷ [])) (o ++ (b ∷ []))
lesser_last [] a b h = here h
lesser_last (d ∷ o) a b h = later (lesser_last o a b h)

longer : (o : List ℕ) (d : ℕ) → length (o ++ (d ∷ [])) ≡ length o + 1
longer o d = length-append o (d ∷ [])

-- one item more after each
before_more : (o p : List ℕ) (a b : ℕ) → Before o p → Before (o ++ (a ∷ [])) (p ++ (b ∷ []))
before_more o p a b =
    ⊎_elim (λ (h : length o < length p). inl (rw (longer o a, longer p b) (omega arith)))
    (λ (h : (length o ≡ length p) × Lesser o p). inr (rw (longer o a, longer p b, h.0), lesser_more (a ∷ []) (b ∷ []) h.1))

before_last : (o : List ℕ) (a b : ℕ) → a < b → Before (o ++ (a ∷ [])) (o ++ (b ∷ []))
before_last o a b h = inr (rw (longer o a, longer o b), lesser_last o a b h)

pub rising : (n j k : ℕ) → j < k → k ≤ most n → Before (kinds_in n j) (kinds_in n k)
unfolding most
rising zero j k h m = absurd (omega arith)
rising (suc n) j zero h m = absurd (omega arith)
rising (suc n) zero (suc k) h m = rw (kinds_none (suc n), kinds_suc n k) (inl (rw (longer (kinds_in n (k / 3)) (k % 3 + 1)) (omega arith)))
rising (suc n) (suc j) (suc k) h m =
    rw (kinds_suc n j, kinds_suc n k)
    (⊎_elim
    (λ (e : j / 3 ≡ k / 3). rw e (before_last (kinds_in n (k / 3)) (j % 3 + 1) (k % 3 + 1) (omega arith)))
    (λ (l : j / 3 < k / 3). before_more (kinds_in n (j / 3)) (kinds_in n (k / 3)) (j % 3 + 1) (k % 3 + 1) (rising n (j / 3) (k / 3) l (omega arith)))
    (eq-or-lt_of_le (le j k (omega arith))))
  where
    le : (j k : ℕ) → j ≤ k → j / 3 ≤ k / 3
    le j k h = omega arith
