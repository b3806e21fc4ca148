-- The order of a number is the number written with the digits 1, 2 and 3 to base 3. Assumes nothing.
use Prim.Native.Nat.{ℕ, zero, suc, ◌+◌, ◌-◌, ◌*◌, ◌/◌, ◌%◌, ◌≤◌, ◌<◌}
use mathlib.Core.List.{List, [], ◌∷◌, ◌++◌, append-nil}
use mathlib.Core.Path.{◌≡◌, refl, ap, ◌∙◌}
use native.Mathlib.Nat.{add-zero, add-suc, suc-add, zero-add}
use native.Mathlib.Omega.{arith}
use borrow.Author.Tests.{ne_eqb}
use lib.ListN.{length, get_or, length-append}
use lib.Seq.{append_snoc}
use Rattle.orders.specs.Orders.{orders_of, orders_to, order_at}
use Rattle.orders.specs.Kinds.{kinds_in}
use Rattle.orders.specs.Every.{Order, none, more}

-- ---- the definition's table is that of the digits, compared whole

-- f k, f (k + 1) and so on, n of them
unfoldable pub listed : (ℕ → List ℕ) → ℕ → ℕ → List (List ℕ)
listed f zero k = []
listed f (suc n) k = f k ∷ listed f n (suc k)

listed_at : (f : ℕ → List ℕ) (n k i : ℕ) → i < n → get_or (listed f n k) i [] ≡ f (k + i)
unfolding listed
listed_at f zero k i h = absurd (omega arith)
listed_at f (suc n) k zero h = rw (add-zero k)
listed_at f (suc n) k (suc i) h = rw (add-suc k i, ← suc-add k i) (listed_at f n (suc k) i (omega arith))

pub whole : orders_to 6 ≡ listed (kinds_in 6) 1093 0
unfolding orders_to orders_of listed kinds_in
whole = refl

pub order_is : (k : ℕ) → k < 1093 → order_at k ≡ kinds_in 6 k
unfolding order_at
order_is k h = ap (λ (l : List (List ℕ)). get_or l k []) whole ∙ listed_at (kinds_in 6) 1093 0 k h ∙ ap (kinds_in 6) (zero-add k)

-- ---- one digit, and one more

pub kinds_none : (n : ℕ) → kinds_in n 0 ≡ []
unfolding kinds_in
kinds_none zero = refl
kinds_none (suc n) = refl

pub kinds_more : (n k : ℕ) → 0 < k → kinds_in (suc n) k ≡ kinds_in n ((k - 1) / 3) ++ (((k - 1) % 3 + 1) ∷ [])
unfolding kinds_in
kinds_more n k h = rw (ne_eqb k 0 (λ e. omega arith))

pub kinds_suc : (n k : ℕ) → kinds_in (suc n) (suc k) ≡ kinds_in n (k / 3) ++ ((k % 3 + 1) ∷ [])
kinds_suc n k = let e : suc k - 1 ≡ k = omega arith in rw e at (kinds_more n (suc k) (omega arith))

pub kinds_few : (n k : ℕ) → length (kinds_in n k) ≤ n
unfolding kinds_in
kinds_few zero k = omega arith
kinds_few (suc n) zero = omega arith
kinds_few (suc n) (suc k) =
    rw (kinds_suc n k, length-append (kinds_in n (k / 3)) ((k % 3 + 1) ∷ [])) (omega (arith, kinds_few n (k / 3)))

order_last : {o : List ℕ} (d : ℕ) → 1 ≤ d → d ≤ 3 → Order o → Order (o ++ (d ∷ []))
order_last d h l none = more h l none
order_last d h l (more g m r) = more g m (order_last d h l r)

pub kinds_order : (n k : ℕ) → Order (kinds_in n k)
unfolding kinds_in
kinds_order zero k = none
kinds_order (suc n) zero = none
kinds_order (suc n) (suc k) = rw (kinds_suc n k) (order_last (k % 3 + 1) (omega arith) (omega arith) (kinds_order n (k / 3)))

-- ---- the number of n digits that is greatest, and the number that digits are, read after one that was read before

unfoldable pub most : ℕ → ℕ
most zero = 0
most (suc n) = 3 * most n + 3

pub six_digits : (k : ℕ) → k ≤ 1092 → k ≤ most 6
unfolding most
six_digits k h = h

most_more : (n k d : ℕ) → k ≤ most n → d ≤ 3 → 3 * k + d ≤ most (suc n)
unfolding most
most_more n k d h l = omega arith

unfoldable pub read : ℕ → List ℕ → ℕ
read k [] = k
read k (d ∷ o) = read (3 * k + d) o

read_last : (k : ℕ) (o : List ℕ) (d : ℕ) → read k (o ++ (d ∷ [])) ≡ 3 * read k o + d
unfolding read
read_last k [] d = refl
read_last k (e ∷ o) d = read_last (3 * k + e) o d

-- a number's digits are read as the number
pub read_kinds : (n k : ℕ) → k ≤ most n → read 0 (kinds_in n k) ≡ k
unfolding most read kinds_in
read_kinds zero k h = omega arith
read_kinds (suc n) zero h = refl
read_kinds (suc n) (suc k) h =
    rw (kinds_suc n k, read_last 0 (kinds_in n (k / 3)) (k % 3 + 1), read_kinds n (k / 3) (omega arith)) (omega arith)

-- an order, read, has it as its digits
pub kinds_read : (n k : ℕ) {o : List ℕ} → Order o → kinds_in (n + length o) (read k o) ≡ kinds_in n k ++ o
unfolding read
kinds_read n k none = rw (add-zero n, append-nil (kinds_in n k))
kinds_read n k (more {kind = d} {o = o} h l r) =
    let tens : (3 * k + d - 1) / 3 ≡ k = omega arith in
    let last : (3 * k + d - 1) % 3 + 1 ≡ d = omega arith in
    rw (add-suc n (length o), ← suc-add n (length o), kinds_read (suc n) (3 * k + d) r, kinds_more n (3 * k + d) (omega arith), tens, last)
    (append_snoc (kinds_in n k) d o)

pub read_most : (n k : ℕ) {o : List ℕ} → Order o → k ≤ most n → read k o ≤ most (n + length o)
unfolding read
read_most n k none h = rw (add-zero n) h
read_most n k (more {kind = d} {o = o} g l r) h =
    rw (add-suc n (length o), ← suc-add n (length o)) (read_most (suc n) (3 * k + d) r (most_more n k d h l))
