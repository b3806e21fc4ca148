-- The whole part of a float below 2 ^ 23, by its sum with 2 ^ 23. From there to 2 ^ 24 the floats are the whole numbers, and their patterns follow one another.
-- So the sum's pattern is that of 2 ^ 23 with the whole part added, or the next one, and never past the ceiling. Assumes nothing.
use Rattle.std.proofs.Common.{◌≡◌, ℕ, suc, ◌+◌, ◌-◌, ◌*◌, ◌/◌, ◌^◌, ◌<◌, ◌≤◌, Bool, true, false, not, T, ◌⊎◌, ℤ, pos, sym, refl, ap, ◌∙◌, subst, inl, inr, true≢false, le_trans, le_of_eq, lt_of_lt_of_le, lt_of_le_of_lt, le_of_lt, mul-le-mul_right, lt-suc_self, div-lt_iff_lt-mul, add-mul, lt_of_mul-lt-mul_right, eq-or-lt_of_le, mul-le-mul_left, le-div_iff_mul-le, mul-one, mul_right_comm, div-mul-le_self, le_of_mul-le-mul_right, arith, lit≤, ltb→lt, nltb→le, pow_pos, pow-add}
use lib.Ieee.{Float, nan, inf, fin, binary32, up, down, size, round, add, lt, le, is_nan, to_bits, of_bits, to_unsigned, to_signed, of_int}
use lib.Ieee.Fits.{down_pos, kept-lt, round-fits}
use lib.Ieee.Digits.{size-le, size-lt, size_reaches}
use lib.Ieee.Exact.{HasValue}
use lib.Ieee.Back.{round_whole}
use lib.Ieee.Nearest.{div_mono}
use lib.Ieee.Order.{round_mono}
use lib.Ieee.Scale.{round_same}
use lib.Ieee.Positive.{num, den, den_pos, positive, positive_of_value, value→cross, le→cross, between, through}
use lib.Ieee.Bits.{of_bits-fits, to_bits-of_bits}
use Rattle.mathf.specs.Whole.{whole_of, ceil_of, taken_up}
use Rattle.mathf.proofs.Patterns.{value_unique}
use Rattle.mathf.proofs.Scaled.{below_pow, pattern_value, steps_value}
use Rattle.mathf.proofs.Saturating.{passed, failed, under, uncapped}
use Rattle.mathf.proofs.Floors.{lt_whole, ge_whole}
use Rattle.mathf.proofs.Bounds.{of_int_lem, signed_as, taken_le, taken_over}

-- ---- patterns keep the order of n units, from 2 ^ 23 of them up
abbrev bits_of : ℕ → ℕ
bits_of n = (size n - 24) * 2 ^ 23 + n / 2 ^ (size n - 24)

first_digit : (n : ℕ) → 24 ≤ size n → 2 ^ 23 ≤ n / 2 ^ (size n - 24)
first_digit n h =
    (le-div_iff_mul-le (pow_pos (size n - 24))).1
    (le_trans (le_of_eq (sym (pow-add 2 23 (size n - 24)) ∙ ap (λ (k : ℕ). 2 ^ k) (sum (size n) h))) (size_reaches n (size n - 1) (last (size n) h)))
  where
    sum : (s : ℕ) → 24 ≤ s → 23 + (s - 24) ≡ s - 1
    sum s h = omega arith

    last : (s : ℕ) → 24 ≤ s → s - 1 < s
    last s h = omega arith

units_order : (n m : ℕ) → 24 ≤ size n → n ≤ m → bits_of n ≤ bits_of m
units_order n m h l = go (eq-or-lt_of_le wider)
  where
    wider : size n ≤ size m
    wider = size-le n (size m) (lt_of_le_of_lt l (size-lt m))

    room : (s t a b : ℕ) → 24 ≤ s → s < t → a < 2 ^ 24 → 2 ^ 23 ≤ b → (s - 24) * 2 ^ 23 + a ≤ (t - 24) * 2 ^ 23 + b
    room s t a b h l p q = omega arith

    add_le : (c a b : ℕ) → a ≤ b → c + a ≤ c + b
    add_le c a b h = omega arith

    go : (size n ≡ size m) ⊎ (size n < size m) → bits_of n ≤ bits_of m
    go (inl e) =
        subst (λ (s : ℕ). bits_of n ≤ (s - 24) * 2 ^ 23 + m / 2 ^ (s - 24)) e
        (add_le ((size n - 24) * 2 ^ 23) (n / 2 ^ (size n - 24)) (m / 2 ^ (size n - 24))
        (div_mono n (2 ^ (size n - 24)) m (2 ^ (size n - 24)) (pow_pos (size n - 24)) (pow_pos (size n - 24)) (mul-le-mul_right (2 ^ (size n - 24)) l)))
    go (inr s) = room (size n) (size m) (n / 2 ^ (size n - 24)) (m / 2 ^ (size m - 24)) h s (kept-lt 24 n) (first_digit m (le_trans h wider))

-- x is 2 ^ 23 units or more
abbrev Large : Float → Type 0
Large x = 2 ^ 23 * den x ≤ num x * 2 ^ 149

larger : (x y : Float) → T (positive x) → T (positive y) → Large x → T (le x y) → Large y
larger x y p q l h = through (2 ^ 23) (num x) (num y) (2 ^ 149) (den x) (den y) (den_pos x) l (le→cross x y p q h)

bits_order : (x y : Float) → T (positive x) → T (positive y) → Large x → T (le x y) → to_bits binary32 x ≤ to_bits binary32 y
unfolding to_bits
bits_order nan y p q l h = absurd p
bits_order (inf s) y p q l h = absurd p
bits_order (fin true m e) y p q l h = absurd p
bits_order (fin false m e) nan p q l h = absurd q
bits_order (fin false m e) (inf s) p q l h = absurd q
bits_order (fin false m e) (fin true n d) p q l h = absurd q
bits_order (fin false m e) (fin false n d) p q l h =
    let a = m * up e * 2 ^ 149 / down e in
    let b = n * up d * 2 ^ 149 / down d in
    plain (size a - 24) (a / 2 ^ (size a - 24)) (size b - 24) (b / 2 ^ (size b - 24))
    (units_order a b (below_pow 23 (size a) a ((le-div_iff_mul-le (down_pos e)).1 l) (size-lt a))
    (div_mono (m * up e * 2 ^ 149) (down e) (n * up d * 2 ^ 149) (down d) (down_pos e) (down_pos d)
    (le_trans (le_of_eq (mul_right_comm (m * up e) (2 ^ 149) (down d)))
    (le_trans (mul-le-mul_right (2 ^ 149) (le→cross (fin false m e) (fin false n d) p q h)) (le_of_eq (mul_right_comm (n * up d) (down e) (2 ^ 149)))))))
  where
    plain : (s a t b : ℕ) → s * 2 ^ 23 + a ≤ t * 2 ^ 23 + b → 0 + s * 2 ^ 23 + a ≤ 0 + t * 2 ^ 23 + b
    plain s a t b h = omega arith

-- ---- the pattern of a whole number n from 2 ^ 23 to 2 ^ 24
value_no_nan : (x : Float) (s : Bool) (a c : ℕ) → HasValue x s a c → T (not (is_nan x))
unfolding is_nan
value_no_nan nan s a c v = v
value_no_nan (inf t) s a c v = absurd v
value_no_nan (fin t m e) s a c v = tt

whole_bits : (n : ℕ) → 2 ^ 23 ≤ n → n ≤ 2 ^ 24 → to_bits binary32 (whole_of false n) ≡ 149 * 2 ^ 23 + n
whole_bits n l h = go (eq-or-lt_of_le h)
  where
    ends : to_bits binary32 (whole_of false (2 ^ 24)) ≡ 149 * 2 ^ 23 + 2 ^ 24
    ends = unfold to_bits round in refl

    fit : (n : ℕ) → n < 2 ^ 24 → 149 * 2 ^ 23 + n < 2 ^ 32
    fit n h = omega arith

    go : (n ≡ 2 ^ 24) ⊎ (n < 2 ^ 24) → to_bits binary32 (whole_of false n) ≡ 149 * 2 ^ 23 + n
    go (inl e) = subst (λ (k : ℕ). to_bits binary32 (whole_of false k) ≡ 149 * 2 ^ 23 + k) (sym e) ends
    go (inr s) =
        let b = 149 * 2 ^ 23 + n in
        let v = pattern_value 149 n (lit≤ tt) l s in
        let same : whole_of false n ≡ round binary32 false (n * 2 ^ 149) (2 ^ 149) = round_same binary32 false n 1 (n * 2 ^ 149) (2 ^ 149) (pow_pos 0) (pow_pos 149) (sym (mul-one (n * 2 ^ 149))) in
        ap (to_bits binary32)
        (same ∙ value_unique binary32 (round binary32 false (n * 2 ^ 149) (2 ^ 149)) (of_bits binary32 b) false (n * 2 ^ 149) (2 ^ 149) (pow_pos 149)
        (round-fits binary32 false (n * 2 ^ 149) (2 ^ 149)) (of_bits-fits binary32 b) (steps_value 149 n (lit≤ tt) s) v)
        ∙ to_bits-of_bits binary32 b (fit n s) (value_no_nan (of_bits binary32 b) false (n * 2 ^ 149) (2 ^ 149) v)

-- ---- the whole number n beside m * 2 ^ e
lt_n : (y : Float) (n m : ℕ) (e : ℤ) → HasValue y false n 1 → T (lt (fin false m e) y) → m * up e < n * down e
unfolding lt
lt_n nan n m e v t = absurd v
lt_n (inf s) n m e v t = absurd v
lt_n (fin true p g) n m e v t = absurd (true≢false v.0)
lt_n (fin false p g) n m e v t =
    lt_of_mul-lt-mul_right (down g)
    (subst (λ (z : ℕ). m * up e * down g < z) (ap (λ (z : ℕ). z * down e) (sym (mul-one (p * up g)) ∙ v.1) ∙ mul_right_comm n (down g) (down e))
    (ltb→lt (m * up e * down g) (p * up g * down e) t))

ge_n : (y : Float) (n m : ℕ) (e : ℤ) → HasValue y false n 1 → T (not (lt (fin false m e) y)) → n * down e ≤ m * up e
unfolding lt
ge_n nan n m e v t = absurd v
ge_n (inf s) n m e v t = absurd v
ge_n (fin true p g) n m e v t = absurd (true≢false v.0)
ge_n (fin false p g) n m e v t =
    le_of_mul-le-mul_right
    (subst (λ (z : ℕ). z ≤ m * up e * down g) (ap (λ (z : ℕ). z * down e) (sym (mul-one (p * up g)) ∙ v.1) ∙ mul_right_comm n (down g) (down e))
    (nltb→le (m * up e * down g) (p * up g * down e) t)) (down_pos g)

-- ---- the sum of x and 2 ^ 23, and how the whole part of x and its ceiling are told from the next number
pub record Near (x : Float) : Type 0 where
  pub no_nan : T (not (is_nan (add binary32 x (fin false 1 (pos 23)))))
  pub low : 150 * 2 ^ 23 + to_unsigned 23 x ≤ to_bits binary32 (add binary32 x (fin false 1 (pos 23)))
  pub ceil : ℕ
  pub ceils : whole_of false ceil ≡ ceil_of x
  pub close : ceil ≤ to_unsigned 23 x + 1
  pub few : ceil ≤ 2 ^ 23
  pub high : to_bits binary32 (add binary32 x (fin false 1 (pos 23))) ≤ 150 * 2 ^ 23 + ceil
  pub over : (n : ℕ) → n ≤ 2 ^ 23 → T (lt x (of_int binary32 (pos n))) → to_unsigned 23 x < n
  pub under : (n : ℕ) → n ≤ 2 ^ 23 → T (not (lt x (of_int binary32 (pos n)))) → n ≤ to_unsigned 23 x
  pub short : (n : ℕ) → n ≤ 2 ^ 23 → T (lt (of_int binary32 (pos n)) x) → n < ceil
  pub reached : (n : ℕ) → n ≤ 2 ^ 23 → T (not (lt (of_int binary32 (pos n)) x)) → ceil ≤ n

module _ (m : ℕ) (e : ℤ) (h : T (lt (fin false m e) (fin false 1 (pos 23)))) where
  -- the whole part
  abbrev k : ℕ
  k = m * up e / down e

  few : k < 2 ^ 23
  few = unfold lt in under m e 23 h

  abbrev y : Float
  y = round binary32 false (m * up e * 1 + 1 * 2 ^ 23 * down e) (down e * 1)

  abbrev first : ℕ
  first = 2 ^ 23 + k

  -- the ceiling
  abbrev t : ℕ
  t = taken_up (m * up e) (down e)

  close : t ≤ suc k
  close = taken_le (m * up e) (down e) (suc k) (down_pos e) (le_of_lt ((div-lt_iff_lt-mul (down_pos e)).0 (lt-suc_self k)))

  few_up : t ≤ 2 ^ 23
  few_up = le_trans close few

  abbrev next : ℕ
  next = 2 ^ 23 + t

  over_first : T (le (whole_of false first) y)
  over_first =
      round_mono binary32 first 1 (m * up e * 1 + 1 * 2 ^ 23 * down e) (down e * 1) (pow_pos 0) (le_trans (down_pos e) (le_of_eq (sym (mul-one (down e)))))
      (rw (mul-one (down e), add-mul) (room (k * down e) (m * up e) (down e) (div-mul-le_self (m * up e) (down e))))
    where
      room : (z a d : ℕ) → z ≤ a → 2 ^ 23 * d + z ≤ (a * 1 + 1 * 2 ^ 23 * d) * 1
      room z a d h = omega arith

  under_next : T (le y (whole_of false next))
  under_next =
      round_mono binary32 (m * up e * 1 + 1 * 2 ^ 23 * down e) (down e * 1) next 1 (le_trans (down_pos e) (le_of_eq (sym (mul-one (down e))))) (pow_pos 0)
      (rw (mul-one (down e), add-mul (2 ^ 23) t (down e)) (room (t * down e) (m * up e) (down e) (taken_over (m * up e) (down e) (down_pos e))))
    where
      room : (z a d : ℕ) → a ≤ z → (a * 1 + 1 * 2 ^ 23 * d) * 1 ≤ 2 ^ 23 * d + z
      room z a d h = omega arith

  lo_value : HasValue (whole_of false first) false first 1
  lo_value = round_whole binary32 false first (room k few)
    where
      room : (k : ℕ) → k < 2 ^ 23 → 2 ^ 23 + k ≤ 2 ^ 24
      room k h = omega arith

  hi_value : HasValue (whole_of false next) false next 1
  hi_value = round_whole binary32 false next (room t few_up)
    where
      room : (k : ℕ) → k ≤ 2 ^ 23 → 2 ^ 23 + k ≤ 2 ^ 24
      room k h = omega arith

  lo_positive : T (positive (whole_of false first))
  lo_positive = positive_of_value (whole_of false first) first 1 lo_value (room k)
    where
      room : (k : ℕ) → 0 < 2 ^ 23 + k
      room k = omega arith

  hi_positive : T (positive (whole_of false next))
  hi_positive = positive_of_value (whole_of false next) next 1 hi_value (room t)
    where
      room : (k : ℕ) → 0 < 2 ^ 23 + k
      room k = omega arith

  y_positive : T (positive y)
  y_positive = between (whole_of false first) y (whole_of false next) lo_positive hi_positive over_first under_next

  lo_large : Large (whole_of false first)
  lo_large =
      let n = num (whole_of false first) in
      let d = den (whole_of false first) in
      let v : n ≡ first * d = sym (mul-one n) ∙ value→cross (whole_of false first) first 1 lo_value in
      le_trans (mul-le-mul_right d (room k)) (le_trans (le_of_eq (sym v)) (grown n))
    where
      room : (k : ℕ) → 2 ^ 23 ≤ 2 ^ 23 + k
      room k = omega arith

      grown : (n : ℕ) → n ≤ n * 2 ^ 149
      grown n = le_trans (le_of_eq (sym (mul-one n))) (mul-le-mul_left n (pow_pos 149))

  y_no_nan : T (not (is_nan y))
  unfolding is_nan
  y_no_nan = plain y y_positive
    where
      plain : (x : Float) → T (positive x) → T (not (is_nan x))
      plain nan p = p
      plain (inf s) p = tt
      plain (fin s m e) p = tt

  same : to_unsigned 23 (fin false m e) ≡ k
  unfolding to_unsigned
  same = uncapped k (2 ^ 23) few

  near_fin : Near (fin false m e)
  unfolding add ceil_of
  near_fin =
      let a = whole_bits first (at_least k) (few_of k few) in
      let b = whole_bits next (at_least t) (few_next t few_up) in
      let p = bits_order (whole_of false first) y lo_positive y_positive lo_large over_first in
      let q = bits_order y (whole_of false next) y_positive hi_positive (larger (whole_of false first) y lo_positive y_positive lo_large over_first) under_next in
      record {
        no_nan = y_no_nan;
        low = low_of k (to_bits binary32 y) same a p;
        ceil = t;
        ceils = refl;
        close = close_of k t same close;
        few = few_up;
        high = high_of t (to_bits binary32 y) b q;
        over = λ n l t. le_trans (le_of_eq (ap suc same)) ((div-lt_iff_lt-mul (down_pos e)).1 (lt_n (of_int binary32 (pos n)) n m e (of_int_lem n (le_trans l (lit≤ tt))) t));
        under = λ n l t. le_trans ((le-div_iff_mul-le (down_pos e)).1 (ge_n (of_int binary32 (pos n)) n m e (of_int_lem n (le_trans l (lit≤ tt))) t)) (le_of_eq (sym same));
        short = λ n l d.
            lt_of_mul-lt-mul_right (down e)
            (lt_of_lt_of_le (lt_whole (of_int binary32 (pos n)) n m e (of_int_lem n (le_trans l (lit≤ tt))) d) (taken_over (m * up e) (down e) (down_pos e)));
        reached = λ n l d. taken_le (m * up e) (down e) n (down_pos e) (ge_whole (of_int binary32 (pos n)) n m e (of_int_lem n (le_trans l (lit≤ tt))) d);
      }
    where
      at_least : (k : ℕ) → 2 ^ 23 ≤ 2 ^ 23 + k
      at_least k = omega arith

      few_of : (k : ℕ) → k < 2 ^ 23 → 2 ^ 23 + k ≤ 2 ^ 24
      few_of k h = omega arith

      few_next : (k : ℕ) → k ≤ 2 ^ 23 → 2 ^ 23 + k ≤ 2 ^ 24
      few_next k h = omega arith

      close_of : (k t : ℕ) {u : ℕ} → u ≡ k → t ≤ suc k → t ≤ u + 1
      close_of k t e h = omega arith

      low_of : (k p : ℕ) {u b : ℕ} → u ≡ k → b ≡ 149 * 2 ^ 23 + (2 ^ 23 + k) → b ≤ p → 150 * 2 ^ 23 + u ≤ p
      low_of k p e f h = omega arith

      high_of : (t p : ℕ) {b : ℕ} → b ≡ 149 * 2 ^ 23 + (2 ^ 23 + t) → p ≤ b → p ≤ 150 * 2 ^ 23 + t
      high_of t p f h = omega arith

pub near : (x : Float) → T (lt (fin false 0 (pos 0)) x) ⊎ (x ≡ fin false 0 (pos 0)) → T (lt x (fin false 1 (pos 23))) → Near x
near x (inr z) h = subst Near (sym z) (near_fin 0 (pos 0) (subst (λ (v : Float). T (lt v (fin false 1 (pos 23)))) z h))
near x (inl a) h = go x a h
  where
    go : (x : Float) → T (lt (fin false 0 (pos 0)) x) → T (lt x (fin false 1 (pos 23))) → Near x
    go nan a h = absurd (unfold lt in a)
    go (inf true) a h = absurd (unfold lt in a)
    go (inf false) a h = absurd (unfold lt in h)
    go (fin true m e) a h = absurd (unfold lt in a)
    go (fin false m e) a h = near_fin m e h

-- ---- the ways through `cut` and `ceil_i`
module _ (x : Float) (t : Near x) where
  abbrev sum : ℕ
  sum = to_bits binary32 (add binary32 x (fin false 1 (pos 23)))

  -- the sum's place above 2 ^ 23
  abbrev pub place : ℕ
  place = sum - 150 * 2 ^ 23

  pub place_few : place ≤ 2 ^ 23
  place_few = room sum t.ceil t.high t.few
    where
      room : (p c : ℕ) → p ≤ 150 * 2 ^ 23 + c → c ≤ 2 ^ 23 → p - 150 * 2 ^ 23 ≤ 2 ^ 23
      room p c h l = omega arith

  pub place_over : lt x (of_int binary32 (pos place)) ≡ true → (1 ≤ place) × (place - 1 ≡ to_unsigned 23 x)
  place_over e = room sum (to_unsigned 23 x) t.ceil t.high t.close (t.over place place_few (passed e))
    where
      room : (p u c : ℕ) → p ≤ 150 * 2 ^ 23 + c → c ≤ u + 1 → u < p - 150 * 2 ^ 23 → (1 ≤ p - 150 * 2 ^ 23) × (p - 150 * 2 ^ 23 - 1 ≡ u)
      room p u c h k l = (omega arith, omega arith)

  pub place_is : lt x (of_int binary32 (pos place)) ≡ false → place ≡ to_unsigned 23 x
  place_is e = room sum (to_unsigned 23 x) t.low (t.under place place_few (failed e))
    where
      room : (p u : ℕ) → 150 * 2 ^ 23 + u ≤ p → p - 150 * 2 ^ 23 ≤ u → p - 150 * 2 ^ 23 ≡ u
      room p u h l = omega arith

  pub place_short : lt (of_int binary32 (pos place)) x ≡ true → pos (place + 1) ≡ to_signed 31 (ceil_of x)
  place_short e = signed_as (ceil_of x) (place + 1) (wide place place_few) (ap (whole_of false) next ∙ t.ceils)
    where
      room : (p u c : ℕ) → 150 * 2 ^ 23 + u ≤ p → c ≤ u + 1 → p - 150 * 2 ^ 23 < c → p - 150 * 2 ^ 23 + 1 ≡ c
      room p u c h k l = omega arith

      next : place + 1 ≡ t.ceil
      next = room sum (to_unsigned 23 x) t.ceil t.low t.close (t.short place place_few (passed e))

      wide : (p : ℕ) → p ≤ 2 ^ 23 → p + 1 ≤ 2 ^ 24
      wide p h = omega arith

  pub place_reached : lt (of_int binary32 (pos place)) x ≡ false → pos place ≡ to_signed 31 (ceil_of x)
  place_reached e = signed_as (ceil_of x) place (le_trans place_few (lit≤ tt)) (ap (whole_of false) same ∙ t.ceils)
    where
      room : (p c : ℕ) → p ≤ 150 * 2 ^ 23 + c → c ≤ p - 150 * 2 ^ 23 → p - 150 * 2 ^ 23 ≡ c
      room p c h l = omega arith

      same : place ≡ t.ceil
      same = room sum t.ceil t.high (t.reached place place_few (failed e))
