-- What `floor` rests on: a sign goes through rounding, a float that is whole is its own floor, and the cut of a float with a fraction gives the floor.
-- Assumes nothing.
use Rattle.std.proofs.Common.{◌≡◌, ℕ, zero, suc, ◌+◌, ◌-◌, ◌*◌, ◌/◌, ◌%◌, ◌^◌, ◌<◌, ◌≤◌, Bool, true, false, cond, not, ◌&&◌, T, eqb, ltb, leb, ℤ, pos, negsuc, sym, refl, ap, ◌∙◌, subst, true≢false, le_trans, le_of_suc-le-suc, le-add_right, add-zero, zero-lt-suc, mul_assoc, lt-suc_self, suc-mul, div-lt_iff_lt-mul, le_antisymm, lt_of_mul-lt-mul_right, mul-lt-mul_of_pos_right, le-div_iff_mul-le, zero-mul, mul-one, mul_right_comm, div-mul-le_self, le_of_mul-le-mul_right, div-one, add-one, arith, lit≤, le→leb, ltb→lt, leb→le, nltb→le, T_not, pow_pos, pow-add}
use native.Mathlib.Nat.{pow-succ', zero-div, div-eq_of_lt}
use lib.Ieee.{Float, nan, inf, fin, Format, binary32, prec, emax, low, up, down, odd, units, round, neg, lt, of_int, to_unsigned, in_float, fits}
use lib.Ieee.Casts.{to_unsigned-lt}
use lib.Ieee.Fits.{down_pos, round_is, round-fits, and_l, and_r}
use lib.Ieee.Exact.{HasValue, round_exact}
use lib.Ieee.Back.{round_whole, whole_unique}
use Rattle.mathf.specs.Whole.{floor_of, ceil_of, whole_of, cut_down, taken_up}
use Rattle.mathf.proofs.Saturating.{under, over, pos_over, passed, failed, uncapped}
use Rattle.mathf.proofs.Compared.{not_negative, negative, above_zero}

-- ---- a sign goes through rounding
neg_odd : (d q k l : ℕ) (s : Bool) → neg (odd d s q k l) ≡ odd d (not s) q k l
unfolding neg odd
neg_odd d zero k l s = refl
neg_odd d (suc q) k l s = refl

neg_units : (f : Format) (s : Bool) (q k : ℕ) → neg (units f s q k) ≡ units f (not s) q k
unfolding neg units
neg_units f s q k = go (ltb (q * 2 ^ k) (2 ^ (low f + suc (emax f))))
  where
    go : (b : Bool) → neg (cond b (odd (suc (prec f)) s q k (low f)) (inf s)) ≡ cond b (odd (suc (prec f)) (not s) q k (low f)) (inf (not s))
    go true = neg_odd (suc (prec f)) q k (low f) s
    go false = refl

pub neg_round : (f : Format) (s : Bool) (a b : ℕ) → neg (round f s a b) ≡ round f (not s) a b
neg_round f s a b = rw (round_is, round_is) (neg_units f s _ _)

-- ---- what it takes to fit: of a number above zero
pub fit_parts : (s : Bool) (m : ℕ) (e : ℤ) → T (fits binary32 (fin s (suc m) e)) → (suc m < 2 ^ 24) × (suc m * up e < 2 ^ 128 * down e) × (down e ≤ 2 ^ 149)
unfolding fits
fit_parts s m e t =
    let a : Bool = eqb (suc m % 2) 1 in
    let b : Bool = ltb (suc m) (2 ^ 24) in
    let c : Bool = leb (down e) (2 ^ 149) in
    let d : Bool = ltb (suc m * up e) (2 ^ 128 * down e) in
    let low = and_l (a && b && c) d t in
    (ltb→lt (suc m) (2 ^ 24) (and_r a b (and_l (a && b) c low)), ltb→lt (suc m * up e) (2 ^ 128 * down e) (and_r (a && b && c) d t), leb→le (down e) (2 ^ 149) (and_r (a && b) c low))

-- ---- a float that is whole is the float of its whole number
units_below : (m k : ℕ) → m * 2 ^ k < 2 ^ 128 * 1 → m * 2 ^ (k + 149) < 2 ^ (149 + 128)
units_below m k h =
    subst (λ (z : ℕ). z < 2 ^ 277) (mul_assoc m (2 ^ k) (2 ^ 149) ∙ ap (λ (z : ℕ). m * z) (sym (pow-add 2 k 149))) (mul-lt-mul_of_pos_right h (pow_pos 149))

pub whole_value : (s : Bool) (m k : ℕ) → T (fits binary32 (fin s m (pos k))) → HasValue (whole_of s (m * 2 ^ k)) s (m * 2 ^ k) 1
whole_value s zero k t = subst (λ (z : ℕ). HasValue (whole_of s z) s z 1) (sym (zero-mul (2 ^ k))) (round_whole binary32 s 0 (lit≤ tt))
whole_value s (suc m) k t =
    let p = fit_parts s m (pos k) t in
    round_exact binary32 s (suc m * 2 ^ k) 1 (suc m) (k + 149) (zero-lt-suc 0) p.0 (units_below (suc m) k p.1)
    (mul_assoc (suc m) (2 ^ k) (2 ^ 149) ∙ ap (λ (z : ℕ). suc m * z) (sym (pow-add 2 k 149)) ∙ sym (mul-one (suc m * 2 ^ (k + 149))))

pub whole_is : (s : Bool) (m k : ℕ) → T (fits binary32 (fin s m (pos k))) → whole_of s (m * 2 ^ k) ≡ fin s m (pos k)
whole_is s m k t = whole_unique binary32 (whole_of s (m * 2 ^ k)) (fin s m (pos k)) s (m * 2 ^ k) (round-fits binary32 s (m * 2 ^ k) 1) t (whole_value s m k t) (refl, refl)

-- a zero, whatever is written beside it
zero_is : (s : Bool) (e : ℤ) → T (fits binary32 (fin s zero e)) → whole_of s 0 ≡ fin s zero e
zero_is s e t = whole_unique binary32 (whole_of s 0) (fin s zero e) s 0 (round-fits binary32 s 0 1) t (round_whole binary32 s 0 (lit≤ tt)) (refl, ap (λ (z : ℕ). z * 1) (zero-mul (up e)) ∙ sym (zero-mul (down e)))

-- whatever way it is cut
pub zero_cut : (m : ℕ) (e : ℤ) → m ≡ 0 → cut_down (m * up e) (down e) ≡ 0
zero_cut m e z = ap (λ (k : ℕ). k / down e) (ap (λ (k : ℕ). k * up e) z ∙ zero-mul (up e)) ∙ zero-div (down e)

pub zero_taken : (m : ℕ) (e : ℤ) → m ≡ 0 → taken_up (m * up e) (down e) ≡ 0
zero_taken m e z = ap (λ (k : ℕ). (k + (down e - 1)) / down e) (ap (λ (k : ℕ). k * up e) z ∙ zero-mul (up e)) ∙ div-eq_of_lt (less (down e) (down_pos e))
  where
    less : (d : ℕ) → 0 < d → 0 + (d - 1) < d
    less d h = omega arith

-- ---- from 2 ^ 23 up a float is whole
no_fraction : (m k : ℕ) → m < 2 ^ 24 → 2 ^ 23 * 2 ^ suc k ≤ m * 1 → ⊥
no_fraction m k a b = go (2 ^ k) (pow_pos k) (subst (λ (z : ℕ). 2 ^ 23 * z ≤ m * 1) (pow-succ' 2 k) b)
  where
    go : (p : ℕ) → 0 < p → 2 ^ 23 * (2 * p) ≤ m * 1 → ⊥
    go p h l = omega arith

big_is : (s : Bool) (m : ℕ) (e : ℤ) → T (fits binary32 (fin s m e)) → 2 ^ 23 ≤ m * up e / down e → (whole_of s (cut_down (m * up e) (down e)) ≡ fin s m e) × (whole_of s (taken_up (m * up e) (down e)) ≡ fin s m e)
big_is s m (pos k) t h = (
  ap (whole_of s) (div-one (m * 2 ^ k)) ∙ whole_is s m k t,
  ap (whole_of s) (ap (λ (z : ℕ). z / 1) (add-zero (m * 2 ^ k)) ∙ div-one (m * 2 ^ k)) ∙ whole_is s m k t,
)
big_is s zero (negsuc k) t h = absurd (none (2 ^ suc k) ((le-div_iff_mul-le (pow_pos (suc k))).0 h) (pow_pos (suc k)))
  where
    none : (p : ℕ) → 2 ^ 23 * p ≤ zero * 1 → 0 < p → ⊥
    none p a b = omega arith
big_is s (suc m) (negsuc k) t h = absurd (no_fraction (suc m) k (fit_parts s m (negsuc k) t).0 ((le-div_iff_mul-le (pow_pos (suc k))).0 h))

-- ---- the two tests of each sign
-- above zero
small_T : (x : Float) → T (lt (fin false 0 (pos 0)) x) → T (lt x (fin false 1 (pos 23))) → whole_of false (to_unsigned 23 x) ≡ floor_of x
unfolding lt to_unsigned floor_of
small_T nan a b = absurd a
small_T (inf true) a b = absurd a
small_T (inf false) a b = absurd b
small_T (fin true m e) a b = absurd a
small_T (fin false m e) a b = ap (whole_of false) (uncapped (m * up e / down e) (2 ^ 23) (under m e 23 b))

big_T : (x : Float) → T (fits binary32 x) → T (lt (fin false 0 (pos 0)) x) → T (not (lt x (fin false 1 (pos 23)))) → x ≡ floor_of x
unfolding lt floor_of
big_T nan t a b = refl
big_T (inf true) t a b = refl
big_T (inf false) t a b = refl
big_T (fin true m e) t a b = absurd a
big_T (fin false m e) t a b = sym (big_is false m e t (over m e 23 b)).0

-- above zero is above -1
pub above_asks : (x : Float) → T (lt (fin false 0 (pos 0)) x) → T (lt (fin true 1 (pos 0)) x)
unfolding lt
above_asks nan a = absurd a
above_asks (inf true) a = absurd a
above_asks (inf false) a = tt
above_asks (fin true m e) a = absurd a
above_asks (fin false m e) a = pos_over m e 0

-- below zero: what the cut of -x asks
pub below_asks : (x : Float) → T (lt x (fin false 0 (pos 0))) → T (lt (fin true 1 (pos 23)) x) → T (lt (fin false 0 (pos 0)) (neg x)) × T (lt (neg x) (fin false 1 (pos 23)))
unfolding lt neg
below_asks nan a b = absurd a
below_asks (inf true) a b = absurd b
below_asks (inf false) a b = absurd a
below_asks (fin true zero e) a b = absurd (none (up e) (down e) (ltb→lt 0 (zero * up e * 1 + 0 * 1 * down e) a))
  where
    none : (u d : ℕ) → 0 < 0 * u * 1 + 0 * 1 * d → ⊥
    none u d h = omega arith
below_asks (fin true (suc m) e) a b = (above_zero (suc m) e (zero-lt-suc m), b)
below_asks (fin false m e) a b = absurd (not_negative m e a)

-- y is the whole number n: how it compares with m * 2 ^ e
pub lt_whole : (y : Float) (n m : ℕ) (e : ℤ) → HasValue y false n 1 → T (lt y (fin false m e)) → n * down e < m * up e
unfolding lt
lt_whole nan n m e v t = absurd v
lt_whole (inf s) n m e v t = absurd v
lt_whole (fin true p g) n m e v t = absurd (true≢false v.0)
lt_whole (fin false p g) n m e v t =
    lt_of_mul-lt-mul_right (down g)
    (subst (λ (z : ℕ). z < m * up e * down g) (ap (λ (z : ℕ). z * down e) (sym (mul-one (p * up g)) ∙ v.1) ∙ mul_right_comm n (down g) (down e))
    (ltb→lt (p * up g * down e) (m * up e * down g) t))

pub ge_whole : (y : Float) (n m : ℕ) (e : ℤ) → HasValue y false n 1 → T (not (lt y (fin false m e))) → m * up e ≤ n * down e
unfolding lt
ge_whole nan n m e v t = absurd v
ge_whole (inf s) n m e v t = absurd v
ge_whole (fin true p g) n m e v t = absurd (true≢false v.0)
ge_whole (fin false p g) n m e v t =
    le_of_mul-le-mul_right
    (subst (λ (z : ℕ). m * up e * down g ≤ z) (ap (λ (z : ℕ). z * down e) (sym (mul-one (p * up g)) ∙ v.1) ∙ mul_right_comm n (down g) (down e))
    (nltb→le (p * up g * down e) (m * up e * down g) t)) (down_pos g)

-- the cut of a fraction, taken up: by one where something was cut off
pub div_is : (n d q : ℕ) → 0 < d → q * d ≤ n → n < suc q * d → n / d ≡ q
div_is n d q h a b = le_antisymm (le_of_suc-le-suc ((div-lt_iff_lt-mul h).1 b)) ((le-div_iff_mul-le h).1 a)

-- a < (a / d + 1) * d
cut_under : (a d : ℕ) → 0 < d → a < a / d * d + d
cut_under a d h = rw suc-mul at ((div-lt_iff_lt-mul h).0 (lt-suc_self (a / d)))

taken_more : (a d : ℕ) → 0 < d → a / d * d < a → taken_up a d ≡ suc (a / d)
taken_more a d h l = div_is (a + (d - 1)) d (suc (a / d)) h (rw suc-mul (low (a / d * d) l)) (rw (suc-mul (suc (a / d)) d, suc-mul) (high (a / d * d) (cut_under a d h)))
  where
    low : (x : ℕ) → x < a → x + d ≤ a + (d - 1)
    low x l = omega arith

    high : (x : ℕ) → a < x + d → a + (d - 1) < x + d + d
    high x l = omega arith

taken_same : (a d : ℕ) → 0 < d → a ≤ a / d * d → taken_up a d ≡ a / d
taken_same a d h l = div_is (a + (d - 1)) d (a / d) h (le_trans (div-mul-le_self a d) (le-add_right a (d - 1))) (rw suc-mul (high (a / d * d) l))
  where
    high : (x : ℕ) → a ≤ x → a + (d - 1) < x + d
    high x l = omega arith

-- below zero: the cut of -x, and one more where something was cut off
n_small : (n : ℕ) → n < 2 ^ 23 → n ≤ 2 ^ 24
n_small n h = omega arith

neg_whole : (n : ℕ) → neg (of_int binary32 (pos n)) ≡ whole_of true n
unfolding of_int
neg_whole n = neg_round binary32 false n 1

below_T : (x : Float) (n : ℕ) → T (lt x (fin false 0 (pos 0))) → T (lt (fin true 1 (pos 23)) x) → n ≡ to_unsigned 23 (neg x)
    → (T (lt (of_int binary32 (pos n)) (neg x)) → whole_of true (suc n) ≡ floor_of x) × (T (not (lt (of_int binary32 (pos n)) (neg x))) → whole_of true n ≡ floor_of x)
unfolding lt neg to_unsigned floor_of of_int
below_T nan n a b c = absurd a
below_T (inf true) n a b c = absurd b
below_T (inf false) n a b c = absurd a
below_T (fin false m e) n a b c = absurd (not_negative m e a)
below_T (fin true m e) n a b c =
    let u : m * up e / down e < 2 ^ 23 = under m e 23 b in
    let q : n ≡ m * up e / down e = c ∙ uncapped (m * up e / down e) (2 ^ 23) u in
    let v = round_whole binary32 false n (n_small n (subst (λ (z : ℕ). z < 2 ^ 23) (sym q) u)) in (
      λ d. ap (whole_of true) (ap suc q ∙ sym (taken_more (m * up e) (down e) (down_pos e) (subst (λ (z : ℕ). z * down e < m * up e) q (lt_whole (whole_of false n) n m e v d)))),
      λ d. ap (whole_of true) (q ∙ sym (taken_same (m * up e) (down e) (down_pos e) (subst (λ (z : ℕ). m * up e ≤ z * down e) q (ge_whole (whole_of false n) n m e v d)))),
    )

low_T : (x : Float) → T (fits binary32 x) → T (lt x (fin false 0 (pos 0))) → T (not (lt (fin true 1 (pos 23)) x)) → x ≡ floor_of x
unfolding lt floor_of
low_T nan t a b = refl
low_T (inf s) t a b = refl
low_T (fin true m e) t a b = sym (big_is true m e t (over m e 23 b)).1
low_T (fin false m e) t a b = absurd (T_not (ltb 0 (1 * 2 ^ 23 * down e + m * up e * 1)) b (pos_over m e 23))

-- neither above zero nor below it: a zero, with either sign, or a NaN
still_T : (x : Float) → T (fits binary32 x) → T (not (lt (fin false 0 (pos 0)) x)) → T (not (lt x (fin false 0 (pos 0)))) → x ≡ floor_of x
unfolding lt floor_of
still_T nan t a b = refl
still_T (inf s) t a b = refl
still_T (fin false zero e) t a b = sym (ap (whole_of false) (zero_cut zero e refl) ∙ zero_is false e t)
still_T (fin false (suc m) e) t a b = absurd (T_not (lt (fin false 0 (pos 0)) (fin false (suc m) e)) a (above_zero (suc m) e (zero-lt-suc m)))
still_T (fin true zero e) t a b = sym (ap (whole_of true) (zero_taken zero e refl) ∙ zero_is true e t)
still_T (fin true (suc m) e) t a b = absurd (negative m e b)

-- ---- the ways through `floor`, from what its branches found
pub small : (x : Float) (n : ℕ) → lt (fin false 0 (pos 0)) x ≡ true → lt x (fin false 1 (pos 23)) ≡ true → n ≡ to_unsigned 23 x → of_int binary32 (pos n) ≡ floor_of x
unfolding of_int
small x n a b e = ap (whole_of false) e ∙ small_T x (passed a) (passed b)

pub big : (x : Float) → T (fits binary32 x) → lt (fin false 0 (pos 0)) x ≡ true → lt x (fin false 1 (pos 23)) ≡ false → x ≡ floor_of x
big x t a b = big_T x t (passed a) (failed b)

pub more : (x : Float) (n : ℕ) → lt x (fin false 0 (pos 0)) ≡ true → lt (fin true 1 (pos 23)) x ≡ true → n ≡ to_unsigned 23 (neg x) → lt (of_int binary32 (pos n)) (neg x) ≡ true → neg (of_int binary32 (pos (n + 1))) ≡ floor_of x
more x n a b e d = neg_whole (n + 1) ∙ ap (whole_of true) (add-one n) ∙ (below_T x n (passed a) (passed b) e).0 (passed d)

pub same : (x : Float) (n : ℕ) → lt x (fin false 0 (pos 0)) ≡ true → lt (fin true 1 (pos 23)) x ≡ true → n ≡ to_unsigned 23 (neg x) → lt (of_int binary32 (pos n)) (neg x) ≡ false → neg (of_int binary32 (pos n)) ≡ floor_of x
same x n a b e d = neg_whole n ∙ (below_T x n (passed a) (passed b) e).1 (failed d)

pub low_down : (x : Float) → T (fits binary32 x) → lt x (fin false 0 (pos 0)) ≡ true → lt (fin true 1 (pos 23)) x ≡ false → x ≡ floor_of x
low_down x t a b = low_T x t (passed a) (failed b)

pub still : (x : Float) → T (fits binary32 x) → lt (fin false 0 (pos 0)) x ≡ false → lt x (fin false 0 (pos 0)) ≡ false → x ≡ floor_of x
still x t a b = still_T x t (failed a) (failed b)

-- the cut is a number that an f32 counts without a gap
pub counted : (x : Float) (n : ℕ) → n ≡ to_unsigned 23 x → n < 2 ^ 23
counted x n e = subst (λ (z : ℕ). z < 2 ^ 23) (sym e) (to_unsigned-lt 23 x)

pub in_float_lem : (n : ℕ) → n ≤ 2 ^ 23 → T (in_float binary32 (pos n))
unfolding in_float
in_float_lem n h = le→leb n (2 ^ 24) (le_trans h (lit≤ tt))

-- ---- `ceil` is `floor`, upside down
pub ceil_is : (x : Float) → neg (floor_of (neg x)) ≡ ceil_of x
unfolding neg floor_of ceil_of
ceil_is nan = refl
ceil_is (inf true) = refl
ceil_is (inf false) = refl
ceil_is (fin true m e) = neg_round binary32 false (cut_down (m * up e) (down e)) 1
ceil_is (fin false m e) = neg_round binary32 true (taken_up (m * up e) (down e)) 1
