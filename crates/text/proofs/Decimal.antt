-- A number in decimal: the fewest digits, as `io::decimal` puts them, are the definition's. Assumes nothing.
use Prim.Native.Nat.{ℕ, zero, suc, ◌+◌, ◌*◌, ◌/◌, ◌%◌, ◌^◌, ◌≤◌, ◌<◌}
use mathlib.Core.Path.{◌≡◌, refl, ap}
use mathlib.Core.Bool.{Bool, true, false, cond}
use mathlib.Core.List.{[], ◌∷◌, ◌++◌}
use native.Mathlib.Nat.{one-le-pow}
use native.Mathlib.Numerals.{unary_clauses}
use native.Mathlib.Omega.{arith}
use borrow.Author.Tests.{lt-ltb, ltb-true, ltb-false}
use lib.Dec.{ltb}
use lib.ListN.{length, length-append}
use Rattle.io.specs.Digits.{hex_digit_ascii, last_digits, IsDigitCount}
use Rattle.text.specs.Text.{decimal_in}

-- the letter of a digit
digit_is : (d : ℕ) → d < 10 → hex_digit_ascii d ≡ 48 + d
digit_is d h = rw (lt-ltb d 10 h)

-- the last digit of a number below 10 is the number
one_digit : (n k : ℕ) → n < 10 → IsDigitCount 10 1 n k → last_digits 10 k n ≡ (48 + n) ∷ []
one_digit n zero h f = absurd (omega (arith, f.0))
one_digit n (suc zero) h f = rw (digit_is (n % 10) (omega arith)) (ap (λ (d : ℕ). (48 + d) ∷ []) (omega arith))
one_digit n (suc (suc j)) h f =
    let p : 10 ^ j * 10 ≤ n = simp unary_clauses at (f.2 (omega arith)) in
    let q : 1 ≤ 10 ^ j = one-le-pow j 10 (omega arith) in
    absurd (omega (arith, p, q))

-- a digit less is the fewest for a tenth
tenth : (n k : ℕ) → 10 ≤ n → IsDigitCount 10 1 n (suc k) → IsDigitCount 10 1 (n / 10) k
tenth n zero h f = absurd (omega (arith, f.1))
tenth n (suc k) h f =
    let p : 10 ^ k * 10 ≤ n = simp unary_clauses at (f.2 (omega arith)) in
    let q : n < 10 ^ suc (suc k) = f.1 in
    (omega arith, omega (arith, q), λ _. simp unary_clauses (omega (arith, p)))

-- by whether one digit is enough
decimal_step : (before n k : ℕ) → ((j : ℕ) → IsDigitCount 10 1 (n / 10) j → last_digits 10 j (n / 10) ≡ decimal_in before (n / 10)) → IsDigitCount 10 1 n k
    → last_digits 10 k n ≡ decimal_in (suc before) n
unfolding decimal_in
decimal_step before n k less f = go (ltb n 10) refl k f
  where
    go : (t : Bool) → ltb n 10 ≡ t → (k : ℕ) → IsDigitCount 10 1 n k
        → last_digits 10 k n ≡ cond t ((48 + n) ∷ []) (decimal_in before (n / 10) ++ ((48 + n % 10) ∷ []))
    go true e k f = one_digit n k (ltb-true n 10 e) f
    go false e zero f = absurd (omega (arith, f.0))
    go false e (suc k) f = rw (digit_is (n % 10) (omega arith), less k (tenth n k (ltb-false n 10 e) f))

pub decimal_is : (before n k : ℕ) → n < 10 ^ suc before → IsDigitCount 10 1 n k → last_digits 10 k n ≡ decimal_in before n
unfolding decimal_in
decimal_is zero n k h f = one_digit n k (omega (arith, h)) f
decimal_is (suc before) n k h f = decimal_step before n k (λ j. decimal_is before (n / 10) j (omega (arith, h))) f

-- at most one digit more than stand before the last
pub decimal_short : (before n : ℕ) → length (decimal_in before n) ≤ suc before
unfolding decimal_in
decimal_short zero n = omega arith
decimal_short (suc before) n = go (ltb n 10) (decimal_short before (n / 10))
  where
    go : (t : Bool) → length (decimal_in before (n / 10)) ≤ suc before
        → length (cond t ((48 + n) ∷ []) (decimal_in before (n / 10) ++ ((48 + n % 10) ∷ []))) ≤ suc (suc before)
    go true h = omega arith
    go false h = rw (length-append (decimal_in before (n / 10)) ((48 + n % 10) ∷ [])) (omega arith)
