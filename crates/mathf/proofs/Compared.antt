-- How floats compare, sign by sign and as numbers: `le` is the order of the values, goes through, and turns round under `neg`. Assumes nothing.
use Rattle.std.proofs.Common.{◌≡◌, ℕ, zero, suc, ◌+◌, ◌*◌, ◌<◌, ◌≤◌, Bool, true, false, not, ◌&&◌, ◌||◌, T, eqb, ltb, ℤ, pos, sym, refl, ap, ◌∙◌, subst, inl, inr, le_trans, le_of_eq, le_refl, le_of_lt, mul-le-mul_right, zero-lt-suc, mul_comm, add-mul, eq-or-lt_of_le, mul-pos, zero-mul, mul-one, mul_right_comm, le_of_mul-le-mul_right, arith, eqb→eq, ltb→lt, lt→ltb, nltb→le}
use native.Mathlib.Nat.{mul-mul-mul_comm}
use lib.Arith.{le→nltb}
use lib.Ieee.{Float, nan, inf, fin, up, down, below, level, lt, eq, le, neg}
use lib.Ieee.Exact.{HasValue}
use lib.Ieee.Fits.{and_l, and_r, and_i, eq→eqb, up_pos, down_pos}
use lib.Ieee.Scale.{finite}

-- ---- a sum that is zero
swap : (a b : ℕ) → a + b ≤ 0 → b + a ≤ 0
swap a b h = omega arith

pub left_zero : (a b : ℕ) → a + b ≤ 0 → a ≤ 0
left_zero a b h = omega arith

pub right_zero : (a b : ℕ) → a + b ≤ 0 → b ≤ 0
right_zero a b h = omega arith

-- ---- ±a ≤ ±b
abbrev pub AtMost : Bool → ℕ → Bool → ℕ → Type 0
AtMost false a false b = a ≤ b
AtMost false a true b = a + b ≤ 0
AtMost true a false b = T true
AtMost true a true b = b ≤ a

pub at_most_same : (s : Bool) (a : ℕ) → AtMost s a s a
at_most_same false a = le_refl a
at_most_same true a = le_refl a

at_most_trans : (s t u : Bool) (a b c : ℕ) → AtMost s a t b → AtMost t b u c → AtMost s a u c
at_most_trans false false false a b c h k = le_trans h k
at_most_trans false false true a b c h k = omega arith
at_most_trans false true false a b c h k = omega arith
at_most_trans false true true a b c h k = omega arith
at_most_trans true t false a b c h k = tt
at_most_trans true false true a b c h k = omega arith
at_most_trans true true true a b c h k = le_trans k h

pub at_most_times : (s t : Bool) (a b k : ℕ) → AtMost s a t b → AtMost s (a * k) t (b * k)
at_most_times false false a b k h = mul-le-mul_right k h
at_most_times false true a b k h = le_trans (le_of_eq (sym (add-mul a b k))) (le_trans (mul-le-mul_right k h) (le_of_eq (zero-mul k)))
at_most_times true false a b k h = tt
at_most_times true true a b k h = mul-le-mul_right k h

at_most_back : (s t : Bool) (a b k : ℕ) → 0 < k → AtMost s (a * k) t (b * k) → AtMost s a t b
at_most_back false false a b k p h = le_of_mul-le-mul_right h p
at_most_back false true a b k p h = le_of_mul-le-mul_right (le_trans (le_of_eq (add-mul a b k)) (le_trans h (le_of_eq (sym (zero-mul k))))) p
at_most_back true false a b k p h = tt
at_most_back true true a b k p h = le_of_mul-le-mul_right h p

turned : (s t : Bool) (a b : ℕ) → AtMost s a t b → AtMost (not t) b (not s) a
turned false false a b h = h
turned false true a b h = swap a b h
turned true false a b h = tt
turned true true a b h = h

-- ---- how `le` compares
pub or_l : (a b : Bool) → T a → T (a || b)
or_l true b t = tt
or_l false b t = absurd t

or_r : (a b : Bool) → T b → T (a || b)
or_r true b t = tt
or_r false b t = t

-- one of two tests, `<` and `=`
cases : (a b : ℕ) (p q : Bool) → (T p → a ≤ b) → (T q → a ≤ b) → T (p || (q && true)) → a ≤ b
cases a b true q f g t = f tt
cases a b false true f g t = g tt
cases a b false false f g t = absurd t

pub at_most : (s t : Bool) (a b : ℕ) → T (below s a t b || level s a t b) → AtMost s a t b
at_most false false a b h = cases a b (ltb a b) (eqb a b) (λ u. le_of_lt (ltb→lt a b u)) (λ u. le_of_eq (eqb→eq a b u)) h
at_most false true a b h = none a b (eqb→eq a b (and_l (eqb a b) (eqb a 0) h)) (eqb→eq a 0 (and_r (eqb a b) (eqb a 0) h))
  where
    none : (a b : ℕ) → a ≡ b → a ≡ 0 → a + b ≤ 0
    none a b p q = omega arith
at_most true false a b h = tt
at_most true true a b h = cases b a (ltb b a) (eqb a b) (λ u. le_of_lt (ltb→lt b a u)) (λ u. le_of_eq (sym (eqb→eq a b u))) h

level_zero : (a b : ℕ) → a + b ≤ 0 → T (eqb a b && eqb a 0)
level_zero a b h = and_i (eqb a b) (eqb a 0) (eq→eqb (same a b h)) (eq→eqb (none a b h))
  where
    same : (a b : ℕ) → a + b ≤ 0 → a ≡ b
    same a b h = omega arith

    none : (a b : ℕ) → a + b ≤ 0 → a ≡ 0
    none a b h = omega arith

pub from_at_most : (s t : Bool) (a b : ℕ) → AtMost s a t b → T (below s a t b || level s a t b)
from_at_most false false a b h = elim (eq-or-lt_of_le h) [ inl e ↦ or_r (ltb a b) (eqb a b && true) (and_i (eqb a b) true (eq→eqb e) tt) | inr l ↦ or_l (ltb a b) (eqb a b && true) (lt→ltb a b l) ]
from_at_most false true a b h = level_zero a b h
from_at_most true false a b h = go (ltb 0 (a + b)) (nltb→le 0 (a + b))
  where
    go : (t : Bool) → (T (not t) → a + b ≤ 0) → T (t || (eqb a b && eqb a 0))
    go true f = tt
    go false f = level_zero a b (f tt)
from_at_most true true a b h = elim (eq-or-lt_of_le h) [ inl e ↦ or_r (ltb b a) (eqb a b && true) (and_i (eqb a b) true (eq→eqb (sym e)) tt) | inr l ↦ or_l (ltb b a) (eqb a b && true) (lt→ltb b a l) ]

not_below : (s t : Bool) (a b : ℕ) → AtMost s a t b → T (not (below t b s a))
not_below false false a b h = le→nltb b a h
not_below false true a b h = le→nltb 0 (b + a) (swap a b h)
not_below true false a b h = tt
not_below true true a b h = le→nltb a b h

pub not_lt_of_le : (x y : Float) → T (le x y) → T (not (lt y x))
unfolding le lt eq
not_lt_of_le nan y t = absurd t
not_lt_of_le (inf s) nan t = absurd t
not_lt_of_le (inf true) (inf true) t = tt
not_lt_of_le (inf true) (inf false) t = tt
not_lt_of_le (inf false) (inf true) t = absurd t
not_lt_of_le (inf false) (inf false) t = tt
not_lt_of_le (inf true) (fin u n d) t = tt
not_lt_of_le (inf false) (fin u n d) t = absurd t
not_lt_of_le (fin s m e) nan t = absurd t
not_lt_of_le (fin s m e) (inf true) t = absurd t
not_lt_of_le (fin s m e) (inf false) t = tt
not_lt_of_le (fin s m e) (fin u n d) t = let a = m * up e * down d in let b = n * up d * down e in not_below s u a b (at_most s u a b t)

-- ---- beside zero
pub not_negative : (m : ℕ) (e : ℤ) → T (lt (fin false m e) (fin false 0 (pos 0))) → ⊥
unfolding lt
not_negative m e t = none (m * up e * 1) (down e) (ltb→lt (m * up e * 1) (0 * 1 * down e) t)
  where
    none : (a d : ℕ) → a < 0 * 1 * d → ⊥
    none a d h = omega arith

pub negative : (m : ℕ) (e : ℤ) → T (not (lt (fin true (suc m) e) (fin false 0 (pos 0)))) → ⊥
unfolding lt
negative m e t = none (suc m * up e) (0 * 1 * down e) (mul-pos (zero-lt-suc m) (up_pos e)) (nltb→le 0 (suc m * up e * 1 + 0 * 1 * down e) t)
  where
    none : (a z : ℕ) → 0 < a → a * 1 + z ≤ 0 → ⊥
    none a z p q = omega arith

-- a negative number that is not below 0 is -0
pub no_size : (m : ℕ) (e : ℤ) → T (not (lt (fin true m e) (fin false 0 (pos 0)))) → m ≡ 0
unfolding lt
no_size zero e t = refl
no_size (suc m) e t = absurd (negative m e t)

pub above_zero : (m : ℕ) (e : ℤ) → 0 < m → T (lt (fin false 0 (pos 0)) (fin false m e))
unfolding lt
above_zero m e h = lt→ltb (0 * 1 * down e) (m * up e * 1) (room (m * up e) (down e) (mul-pos h (up_pos e)))
  where
    room : (a d : ℕ) → 0 < a → 0 * 1 * d < a * 1
    room a d p = omega arith

-- ---- as numbers: x is ±a / c and y is ±b / d
crossed : (x a c p d q : ℕ) → x * c ≡ a * p → a * d * (p * q) ≡ x * q * (c * d)
crossed x a c p d q e = mul-mul-mul_comm a d p q ∙ ap (λ (z : ℕ). z * (d * q)) (sym e) ∙ ap (λ (z : ℕ). x * c * z) (mul_comm d q) ∙ sym (mul-mul-mul_comm x q c d)

at_most_value : (s t : Bool) (x y p q a b c d : ℕ) → 0 < c → 0 < d → x * c ≡ a * p → y * d ≡ b * q → AtMost s (a * d) t (b * c) → AtMost s (x * q) t (y * p)
at_most_value s t x y p q a b c d C D e f h =
    at_most_back s t (x * q) (y * p) (c * d) (mul-pos C D)
    (subst (λ (z : ℕ). AtMost s z t (y * p * (c * d))) (crossed x a c p d q e)
    (subst (λ (z : ℕ). AtMost s (a * d * (p * q)) t z) (ap (λ (z : ℕ). b * c * z) (mul_comm p q) ∙ crossed y b d q c p f ∙ ap (λ (z : ℕ). y * p * z) (mul_comm d c))
    (at_most_times s t (a * d) (b * c) (p * q) h)))

pub le_of : (x y : Float) (s t : Bool) (a c b d : ℕ) → 0 < c → 0 < d → HasValue x s a c → HasValue y t b d → AtMost s (a * d) t (b * c) → T (le x y)
unfolding le lt eq
le_of nan y s t a c b d C D v w h = absurd v
le_of (inf u) y s t a c b d C D v w h = absurd v
le_of (fin u m e) nan s t a c b d C D v w h = absurd w
le_of (fin u m e) (inf z) s t a c b d C D v w h = absurd w
le_of (fin u m e) (fin z n g) s t a c b d C D v w h =
    from_at_most u z (m * up e * down g) (n * up g * down e)
    (subst (λ (k : Bool). AtMost k (m * up e * down g) z (n * up g * down e)) (sym v.0)
    (subst (λ (k : Bool). AtMost s (m * up e * down g) k (n * up g * down e)) (sym w.0)
    (at_most_value s t (m * up e) (n * up g) (down e) (down g) a b c d C D v.1 w.1 h)))

pub of_le : (x y : Float) (s t : Bool) (a c b d : ℕ) → 0 < c → 0 < d → HasValue x s a c → HasValue y t b d → T (le x y) → AtMost s (a * d) t (b * c)
unfolding le lt eq
of_le nan y s t a c b d C D v w h = absurd v
of_le (inf u) y s t a c b d C D v w h = absurd v
of_le (fin u m e) nan s t a c b d C D v w h = absurd w
of_le (fin u m e) (inf z) s t a c b d C D v w h = absurd w
of_le (fin u m e) (fin z n g) s t a c b d C D v w h =
    at_most_value s t a b c d (m * up e) (n * up g) (down e) (down g) (down_pos e) (down_pos g) (sym v.1) (sym w.1)
    (subst (λ (k : Bool). AtMost s (m * up e * down g) k (n * up g * down e)) w.0
    (subst (λ (k : Bool). AtMost k (m * up e * down g) z (n * up g * down e)) v.0 (at_most u z (m * up e * down g) (n * up g * down e) h)))

-- a whole number of any size
pub whole_value_of : (s : Bool) (n : ℕ) → HasValue (fin s n (pos 0)) s n 1
whole_value_of s n = (refl, mul-one (n * 1))

-- ---- an order
pub finite_value : (x : Float) (s : Bool) (a c : ℕ) → HasValue x s a c → T (finite x)
finite_value nan s a c v = v
finite_value (inf t) s a c v = v
finite_value (fin t m e) s a c v = tt

pub le_same : (x : Float) → T (finite x) → T (le x x)
unfolding le lt eq
le_same nan p = absurd p
le_same (inf s) p = absurd p
le_same (fin s m e) p = from_at_most s s (m * up e * down e) (m * up e * down e) (at_most_same s (m * up e * down e))

-- x / p, y / q and z / r in this order
at_most_through : (s t u : Bool) (x y z p q r : ℕ) → 0 < q → AtMost s (x * q) t (y * p) → AtMost t (y * r) u (z * q) → AtMost s (x * r) u (z * p)
at_most_through s t u x y z p q r Q h k =
    at_most_back s u (x * r) (z * p) q Q
    (subst (λ (w : ℕ). AtMost s w u (z * p * q)) (mul_right_comm x q r)
    (subst (λ (w : ℕ). AtMost s (x * q * r) u w) (mul_right_comm z q p)
    (at_most_trans s t u (x * q * r) (y * p * r) (z * q * p) (at_most_times s t (x * q) (y * p) r h)
    (subst (λ (w : ℕ). AtMost t w u (z * q * p)) (mul_right_comm y r p) (at_most_times t u (y * r) (z * q) p k)))))

pub le_through : (x y z : Float) → T (le x y) → T (le y z) → T (le x z)
unfolding le lt eq
le_through nan y z h k = absurd h
le_through (inf s) nan z h k = absurd h
le_through (fin s m e) nan z h k = absurd h
le_through (inf false) (inf true) z h k = absurd h
le_through (inf false) (inf false) z h k = k
le_through (inf false) (fin t n d) z h k = absurd h
le_through (inf true) (inf t) nan h k = absurd k
le_through (inf true) (inf t) (inf true) h k = tt
le_through (inf true) (inf t) (inf false) h k = tt
le_through (inf true) (inf t) (fin u l g) h k = tt
le_through (inf true) (fin t n d) nan h k = absurd k
le_through (inf true) (fin t n d) (inf true) h k = tt
le_through (inf true) (fin t n d) (inf false) h k = tt
le_through (inf true) (fin t n d) (fin u l g) h k = tt
le_through (fin s m e) (inf true) z h k = absurd h
le_through (fin s m e) (inf false) nan h k = absurd k
le_through (fin s m e) (inf false) (inf true) h k = absurd k
le_through (fin s m e) (inf false) (inf false) h k = tt
le_through (fin s m e) (inf false) (fin u l g) h k = absurd k
le_through (fin s m e) (fin t n d) nan h k = absurd k
le_through (fin s m e) (fin t n d) (inf true) h k = absurd k
le_through (fin s m e) (fin t n d) (inf false) h k = tt
le_through (fin s m e) (fin t n d) (fin u l g) h k =
    from_at_most s u (m * up e * down g) (l * up g * down e)
    (at_most_through s t u (m * up e) (n * up d) (l * up g) (down e) (down d) (down g) (down_pos d) (at_most s t (m * up e * down d) (n * up d * down e) h) (at_most t u (n * up d * down g) (l * up g * down d) k))

-- ---- upside down
pub le_neg : (x y : Float) → T (le x y) → T (le (neg y) (neg x))
unfolding le lt eq neg
le_neg nan y h = absurd h
le_neg (inf s) nan h = absurd h
le_neg (inf true) (inf true) h = tt
le_neg (inf true) (inf false) h = tt
le_neg (inf false) (inf true) h = absurd h
le_neg (inf false) (inf false) h = tt
le_neg (inf true) (fin t n d) h = tt
le_neg (inf false) (fin t n d) h = absurd h
le_neg (fin s m e) nan h = absurd h
le_neg (fin s m e) (inf true) h = absurd h
le_neg (fin s m e) (inf false) h = tt
le_neg (fin s m e) (fin t n d) h = let a = m * up e * down d in let b = n * up d * down e in from_at_most (not t) (not s) b a (turned s t a b (at_most s t a b h))

pub neg_neg : (x : Float) → neg (neg x) ≡ x
unfolding neg
neg_neg nan = refl
neg_neg (inf true) = refl
neg_neg (inf false) = refl
neg_neg (fin true m e) = refl
neg_neg (fin false m e) = refl

pub neg_finite : (x : Float) → T (finite x) → T (finite (neg x))
unfolding neg
neg_finite nan p = p
neg_finite (inf s) p = p
neg_finite (fin s m e) p = tt
