-- The order of ℤ, read by `omega`. An integer z is `up z` less `down z`, so an order of integers is an order of sums of
-- naturals: list `order_z` in a call of `omega`, and it reads and proves the tests `le_z` and `lt_z`. Assumes nothing.
use mathlib.Core.Bool.{Bool, true, false, cond, true≢false}
use mathlib.Core.Path.{◌≡◌, refl, sym}
use Prim.Native.Nat.{ℕ, zero, suc, ◌+◌, ◌≤◌, ◌<◌}
use native.Mathlib.Omega.{arith}
use lib.IntN.{ℤ, pos, negsuc, pred_ℤ}
use lib.Signed.{le_z, lt_z}
use lib.Dec.{leb, ltb}
use borrow.Author.Tests.{leb-true, leb-false, ltb-true, ltb-false, le-leb, lt-leb, lt-ltb, le-ltb}
use Rattle.geom.specs.Int.{up, down, max_z, min_z}
use Rattle.std.specs.Int.{int_max, int_min}
use Rattle.geom.proofs.Bools.{split}

pub le_z_true : (a b : ℤ) → le_z a b ≡ true → up a + down b ≤ up b + down a
le_z_true (pos a) (pos b) e = omega (arith, leb-true a b e)
le_z_true (pos a) (negsuc b) e = let z : ◌≡◌ {A = ℕ} 0 1 = cc in omega arith
le_z_true (negsuc a) (pos b) e = omega arith
le_z_true (negsuc a) (negsuc b) e = omega (arith, leb-true b a e)

pub le_z_false : (a b : ℤ) → le_z a b ≡ false → up b + down a < up a + down b
le_z_false (pos a) (pos b) e = omega (arith, leb-false a b e)
le_z_false (pos a) (negsuc b) e = omega arith
le_z_false (negsuc a) (pos b) e = let z : ◌≡◌ {A = ℕ} 0 1 = cc in omega arith
le_z_false (negsuc a) (negsuc b) e = omega (arith, leb-false b a e)

pub lt_z_true : (a b : ℤ) → lt_z a b ≡ true → up a + down b < up b + down a
lt_z_true (pos a) (pos b) e = omega (arith, ltb-true a b e)
lt_z_true (pos a) (negsuc b) e = let z : ◌≡◌ {A = ℕ} 0 1 = cc in omega arith
lt_z_true (negsuc a) (pos b) e = omega arith
lt_z_true (negsuc a) (negsuc b) e = omega (arith, ltb-true b a e)

pub lt_z_false : (a b : ℤ) → lt_z a b ≡ false → up b + down a ≤ up a + down b
lt_z_false (pos a) (pos b) e = omega (arith, ltb-false a b e)
lt_z_false (pos a) (negsuc b) e = omega arith
lt_z_false (negsuc a) (pos b) e = let z : ◌≡◌ {A = ℕ} 0 1 = cc in omega arith
lt_z_false (negsuc a) (negsuc b) e = omega (arith, ltb-false b a e)

pub le_le_z : (a b : ℤ) → up a + down b ≤ up b + down a → le_z a b ≡ true
le_le_z (pos a) (pos b) h = le-leb a b (omega arith)
le_le_z (pos a) (negsuc b) h = absurd (omega arith)
le_le_z (negsuc a) (pos b) h = refl
le_le_z (negsuc a) (negsuc b) h = le-leb b a (omega arith)

pub lt_le_z : (a b : ℤ) → up b + down a < up a + down b → le_z a b ≡ false
lt_le_z (pos a) (pos b) h = lt-leb a b (omega arith)
lt_le_z (pos a) (negsuc b) h = refl
lt_le_z (negsuc a) (pos b) h = absurd (omega arith)
lt_le_z (negsuc a) (negsuc b) h = lt-leb b a (omega arith)

pub lt_lt_z : (a b : ℤ) → up a + down b < up b + down a → lt_z a b ≡ true
lt_lt_z (pos a) (pos b) h = lt-ltb a b (omega arith)
lt_lt_z (pos a) (negsuc b) h = absurd (omega arith)
lt_lt_z (negsuc a) (pos b) h = refl
lt_lt_z (negsuc a) (negsuc b) h = lt-ltb b a (omega arith)

pub le_lt_z : (a b : ℤ) → up b + down a ≤ up a + down b → lt_z a b ≡ false
le_lt_z (pos a) (pos b) h = le-ltb a b (omega arith)
le_lt_z (pos a) (negsuc b) h = refl
le_lt_z (negsuc a) (pos b) h = absurd (omega arith)
le_lt_z (negsuc a) (negsuc b) h = le-ltb b a (omega arith)

pub ruleset order_z = (arith, le_z_true, le_z_false, lt_z_true, lt_z_false, le_le_z, lt_le_z, lt_lt_z, le_lt_z)

-- one less
pub pred_down : (a : ℤ) → up (pred_ℤ a) + down a + 1 ≡ up a + down (pred_ℤ a)
pred_down (pos zero) = refl
pred_down (pos (suc n)) = omega arith
pred_down (negsuc n) = omega arith

-- ---- a number that is not negative

pub pos_up : (z : ℤ) → le_z (pos 0) z ≡ true → z ≡ pos (up z)
pos_up (pos n) e = refl
pos_up (negsuc n) e = absurd (true≢false (sym e))

pub down_none : (z : ℤ) → le_z (pos 0) z ≡ true → down z ≡ 0
down_none (pos n) e = refl
down_none (negsuc n) e = absurd (true≢false (sym e))

-- the order of a natural and an integer is one of naturals
pub le_up : (z : ℤ) (n : ℕ) → le_z z (pos n) ≡ leb (up z) n
le_up (pos m) n = refl
le_up (negsuc m) n = sym (le-leb 0 n (omega arith))

pub lt_up : (n : ℕ) (z : ℤ) → lt_z (pos n) z ≡ ltb n (up z)
lt_up n (pos m) = refl
lt_up n (negsuc m) = sym (le-ltb n 0 (omega arith))

-- ---- the larger and the smaller

pub max_left : (a b : ℤ) → le_z a (max_z a b) ≡ true
unfolding max_z
max_left a b = split (le_z a b) (λ t. le_z a (cond t b a) ≡ true) (λ e. e) (λ e. omega order_z)

pub max_right : (a b : ℤ) → le_z b (max_z a b) ≡ true
unfolding max_z
max_right a b = split (le_z a b) (λ t. le_z b (cond t b a) ≡ true) (λ e. omega order_z) (λ e. omega order_z)

pub min_left : (a b : ℤ) → le_z (min_z a b) a ≡ true
unfolding min_z
min_left a b = split (le_z a b) (λ t. le_z (cond t a b) a ≡ true) (λ e. omega order_z) (λ e. omega order_z)

pub min_right : (a b : ℤ) → le_z (min_z a b) b ≡ true
unfolding min_z
min_right a b = split (le_z a b) (λ t. le_z (cond t a b) b ≡ true) (λ e. e) (λ e. omega order_z)

-- they are those of `max` and `min`
pub max_is : (a b : ℤ) → int_max a b ≡ max_z a b
unfolding max_z
max_is a b = go (lt_z b a) (le_z a b) refl refl
  where
    go : (s t : Bool) → lt_z b a ≡ s → le_z a b ≡ t → cond s a b ≡ cond t b a
    go true true p q = absurd (omega order_z)
    go true false p q = refl
    go false true p q = refl
    go false false p q = absurd (omega order_z)

pub min_is : (a b : ℤ) → int_min a b ≡ min_z a b
unfolding min_z
min_is a b = go (lt_z b a) (le_z a b) refl refl
  where
    go : (s t : Bool) → lt_z b a ≡ s → le_z a b ≡ t → cond s b a ≡ cond t a b
    go true true p q = absurd (omega order_z)
    go true false p q = refl
    go false true p q = refl
    go false false p q = absurd (omega order_z)

-- what holds of both holds of the larger, and of the smaller
pub max_by : (P : ℤ → Type 0) (a b : ℤ) → P a → P b → P (max_z a b)
unfolding max_z
max_by P a b p q = split (le_z a b) (λ t. P (cond t b a)) (λ e. q) (λ e. p)

pub min_by : (P : ℤ → Type 0) (a b : ℤ) → P a → P b → P (min_z a b)
unfolding min_z
min_by P a b p q = split (le_z a b) (λ t. P (cond t a b)) (λ e. p) (λ e. q)

-- with one of the two once more
either : {A : Type 0} (t : Bool) (a : A) → cond t a a ≡ a
either true a = refl
either false a = refl

pub max_twice : (a b : ℤ) → max_z a (max_z a b) ≡ max_z a b
unfolding max_z
max_twice a b = split (le_z a b) (λ t. cond (le_z a (cond t b a)) (cond t b a) a ≡ cond t b a) (λ e. rw e) (λ e. either (le_z a a) a)

pub min_twice : (a b : ℤ) → min_z a (min_z a b) ≡ min_z a b
unfolding min_z
min_twice a b = split (le_z a b) (λ t. cond (le_z a (cond t a b)) a (cond t a b) ≡ cond t a b) (λ e. either (le_z a a) a) (λ e. rw e)

-- of three
pub min_assoc : (a b c : ℤ) → min_z (min_z a b) c ≡ min_z a (min_z b c)
unfolding min_z
min_assoc a b c = go (le_z a b) (le_z b c) refl refl
  where
    go : (s t : Bool) → le_z a b ≡ s → le_z b c ≡ t → cond (le_z (cond s a b) c) (cond s a b) c ≡ cond (le_z a (cond t b c)) a (cond t b c)
    go true true p q = let r : le_z a c ≡ true = omega order_z in rw (p, r)
    go true false p q = refl
    go false true p q = rw (p, q)
    go false false p q = let r : le_z a c ≡ false = omega order_z in rw (q, r)

pub max_assoc : (a b c : ℤ) → max_z (max_z a b) c ≡ max_z a (max_z b c)
unfolding max_z
max_assoc a b c = go (le_z a b) (le_z b c) refl refl
  where
    go : (s t : Bool) → le_z a b ≡ s → le_z b c ≡ t → cond (le_z (cond s b a) c) c (cond s b a) ≡ cond (le_z a (cond t c b)) (cond t c b) a
    go true true p q = let r : le_z a c ≡ true = omega order_z in rw (q, r)
    go true false p q = rw (p, q)
    go false true p q = refl
    go false false p q = let r : le_z a c ≡ false = omega order_z in rw (p, r)
