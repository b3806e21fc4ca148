-- What a caller learns of the whole numbers next to a float in a known range: an index that is in bounds. A NaN gives 0.
-- `hi` is any float that is the whole number n: `n as f32`, or a literal. Assumes nothing.
use Rattle.std.proofs.Common.{◌≡◌, ℕ, zero, suc, ◌+◌, ◌-◌, ◌*◌, ◌/◌, ◌^◌, ◌<◌, ◌≤◌, min, Bool, true, false, cond, not, ◌||◌, T, ℤ, pos, negsuc, neg_ℤ, nat_abs, sym, refl, ap, ◌∙◌, subst, true≢false, zero-le, le_trans, le_of_eq, le_of_suc-le-suc, lt_of_le_of_lt, lt-suc_self, suc-mul, div-lt_iff_lt-mul, lt_of_not-le, mul-one, arith, lit<, lit≤, le→leb, lt→ltb, T_not, pow_pos, w32, to_z, of_z}
use lib.Arith.{le→nltb}
use lib.Signed.{mag, non_neg}
use mir.ValLaws.{to_z-of_z}
use lib.Ieee.{Float, nan, inf, fin, binary32, up, down, round, neg, lt, le, eq, ne, of_bits, of_int, in_float, to_unsigned, to_signed}
use lib.Ieee.Fits.{down_pos}
use lib.Ieee.Exact.{HasValue}
use lib.Ieee.Back.{round_whole, positive_back, negative_back}
use Rattle.mathf.specs.Order.{min_of, max_of, clamp_of}
use Rattle.mathf.specs.F32.{f0}
use Rattle.mathf.specs.Whole.{floor_of, ceil_of, whole_of, cut_down, taken_up}
use Rattle.mathf.proofs.Compared.{no_size, le_of, le_same, finite_value, not_lt_of_le}
use Rattle.mathf.proofs.Floors.{ge_whole, zero_cut, zero_taken}

-- ---- a whole float as an integer
minus_zero : to_signed 31 (whole_of true 0) ≡ pos 0
unfolding to_signed round
minus_zero = refl

pub signed_whole : (s : Bool) (n : ℕ) → n ≤ 2 ^ 24 → to_signed 31 (whole_of s n) ≡ cond s (neg_ℤ (pos n)) (pos n)
unfolding of_int in_float
signed_whole false n h = (positive_back binary32 31 n (le→leb n (2 ^ 24) h) (lt_of_le_of_lt h (lit< tt))).1
signed_whole true zero h = minus_zero
signed_whole true (suc k) h = (negative_back binary32 31 k (lt→ltb k (2 ^ 24) h) (le_trans h (lit≤ tt))).1

pub signed_as : (x : Float) (n : ℕ) → n ≤ 2 ^ 24 → whole_of false n ≡ x → pos n ≡ to_signed 31 x
signed_as x n h e = sym (signed_whole false n h) ∙ ap (to_signed 31) e

-- ---- the cut of a fraction that is at most n
pub cut_le : (a d n : ℕ) → 0 < d → a ≤ n * d → cut_down a d ≤ n
cut_le a d n h l = le_of_suc-le-suc ((div-lt_iff_lt-mul h).1 (rw suc-mul (room (n * d) l)))
  where
    room : (x : ℕ) → a ≤ x → a < x + d
    room x l = omega arith

pub taken_le : (a d n : ℕ) → 0 < d → a ≤ n * d → taken_up a d ≤ n
taken_le a d n h l = le_of_suc-le-suc ((div-lt_iff_lt-mul h).1 (rw suc-mul (room (n * d) l)))
  where
    room : (x : ℕ) → a ≤ x → a + (d - 1) < x + d
    room x l = omega arith

pub taken_over : (a d : ℕ) → 0 < d → a ≤ taken_up a d * d
taken_over a d h = room (taken_up a d * d) (rw suc-mul at ((div-lt_iff_lt-mul h).0 (lt-suc_self (taken_up a d))))
  where
    room : (x : ℕ) → a + (d - 1) < x + d → a ≤ x
    room x l = omega arith

-- ---- from 0 to n
-- z is one of 0 .. n
pub record Index (n : ℕ) (z : ℤ) : Type 0 where
  pub at : ℕ
  pub is : z ≡ pos at
  pub within : at ≤ n

-- v is not below 0, and not above n
pub record Within (n : ℕ) (v : Float) : Type 0 where
  pub hi : Float
  pub whole : HasValue hi false n 1
  pub low : T (not (lt v (fin false 0 (pos 0))))
  pub high : T (not (lt hi v))

index_of : (s : Bool) (n k : ℕ) → n ≤ 2 ^ 24 → k ≤ n → (s ≡ true → k ≡ 0) → Index n (to_signed 31 (whole_of s k))
index_of false n k b l z = record { at = k; is = signed_whole false k (le_trans l b); within = l }
index_of true n k b l z = record { at = 0; is = signed_whole true k (le_trans l b) ∙ ap (λ (i : ℕ). neg_ℤ (pos i)) (z refl); within = zero-le }

not_inf : (hi : Float) (n : ℕ) → HasValue hi false n 1 → T (not (lt hi (inf false))) → ⊥
unfolding lt
not_inf nan n v t = v
not_inf (inf s) n v t = v
not_inf (fin s m e) n v t = t

zero_le_of : (k n : ℕ) → k ≡ 0 → k ≤ n
zero_le_of k n z = subst (λ (i : ℕ). i ≤ n) (sym z) zero-le

module _ (n : ℕ) (b : n ≤ 2 ^ 24) where
  pub floor_index : (v : Float) → Within n v → Index n (to_signed 31 (floor_of v))
  unfolding floor_of to_signed lt
  floor_index nan w = record { at = 0; is = refl; within = zero-le }
  floor_index (inf true) w = absurd w.low
  floor_index (inf false) w = absurd (not_inf w.hi n w.whole w.high)
  floor_index (fin false m e) w =
      index_of false n (cut_down (m * up e) (down e)) b (cut_le (m * up e) (down e) n (down_pos e) (ge_whole w.hi n m e w.whole w.high)) (λ p. absurd (true≢false (sym p)))
  floor_index (fin true m e) w =
      let z = zero_taken m e (no_size m e w.low) in index_of true n (taken_up (m * up e) (down e)) b (zero_le_of _ n z) (λ p. z)

  pub ceil_index : (v : Float) → Within n v → Index n (to_signed 31 (ceil_of v))
  unfolding ceil_of to_signed lt
  ceil_index nan w = record { at = 0; is = refl; within = zero-le }
  ceil_index (inf true) w = absurd w.low
  ceil_index (inf false) w = absurd (not_inf w.hi n w.whole w.high)
  ceil_index (fin false m e) w =
      index_of false n (taken_up (m * up e) (down e)) b (taken_le (m * up e) (down e) n (down_pos e) (ge_whole w.hi n m e w.whole w.high)) (λ p. absurd (true≢false (sym p)))
  ceil_index (fin true m e) w =
      let z = zero_cut m e (no_size m e w.low) in index_of true n (cut_down (m * up e) (down e)) b (zero_le_of _ n z) (λ p. z)

-- ---- a clamp to 0 .. n puts any float there, or leaves a NaN
not_below_zero : (hi : Float) (n : ℕ) → HasValue hi false n 1 → T (not (lt hi (fin false 0 (pos 0))))
unfolding lt
not_below_zero nan n v = absurd v
not_below_zero (inf s) n v = absurd v
not_below_zero (fin true p g) n v = absurd (true≢false v.0)
not_below_zero (fin false p g) n v = le→nltb (p * up g * 1) (0 * 1 * down g) (none (p * up g * 1) (down g))
  where
    none : (a d : ℕ) → 0 * 1 * d ≤ a
    none a d = omega arith

pub clamp_within : (n : ℕ) (x hi : Float) → HasValue hi false n 1 → Within n (clamp_of x f0 hi)
unfolding of_bits
clamp_within n x hi v = go (lt x (fin false 0 (pos 0))) (lt hi x) (λ t. t) (λ t. t)
  where
    go : (a b : Bool) → (T (not a) → T (not (lt x (fin false 0 (pos 0))))) → (T (not b) → T (not (lt hi x))) → Within n (cond a (fin false 0 (pos 0)) (cond b hi x))
    go true b f g = record { hi = hi; whole = v; low = unfold lt in tt; high = not_below_zero hi n v }
    go false true f g = record { hi = hi; whole = v; low = not_below_zero hi n v; high = not_lt_of_le hi hi (le_same hi (finite_value hi false n 1 v)) }
    go false false f g = record { hi = hi; whole = v; low = f tt; high = g tt }

-- `n as f32`, for an n up to 2 ^ 24, is the whole number n
pub of_int_lem : (n : ℕ) → n ≤ 2 ^ 24 → HasValue (of_int binary32 (pos n)) false n 1
unfolding of_int
of_int_lem n h = round_whole binary32 false n h

-- ---- from -n to n
pub record Sized (n : ℕ) (v : Float) : Type 0 where
  pub hi : Float
  pub whole : HasValue hi false n 1
  pub low : T (not (lt v (neg hi)))
  pub high : T (not (lt hi v))

size_of_lem : (s : Bool) (n k : ℕ) → n ≤ 2 ^ 24 → k ≤ n → nat_abs (to_signed 31 (whole_of s k)) ≤ n
size_of_lem s n k b l = subst (λ (z : ℤ). nat_abs z ≤ n) (sym (signed_whole s k (le_trans l b))) (size s k l)
  where
    size : (s : Bool) (k : ℕ) → k ≤ n → nat_abs (cond s (neg_ℤ (pos k)) (pos k)) ≤ n
    size false k l = l
    size true zero l = l
    size true (suc k) l = l

not_minus_inf : (hi : Float) (n : ℕ) → HasValue hi false n 1 → T (not (lt (inf true) (neg hi))) → ⊥
unfolding lt neg
not_minus_inf nan n v t = v
not_minus_inf (inf s) n v t = v
not_minus_inf (fin s m e) n v t = t

ge_minus : (hi : Float) (n m : ℕ) (e : ℤ) → HasValue hi false n 1 → T (not (lt (fin true m e) (neg hi))) → m * up e ≤ n * down e
unfolding lt neg
ge_minus nan n m e v t = absurd v
ge_minus (inf s) n m e v t = absurd v
ge_minus (fin true p g) n m e v t = absurd (true≢false v.0)
ge_minus (fin false p g) n m e v t = ge_whole (fin false p g) n m e v t

module _ (n : ℕ) (b : n ≤ 2 ^ 24) where
  pub floor_size : (v : Float) → Sized n v → nat_abs (to_signed 31 (floor_of v)) ≤ n
  unfolding floor_of to_signed
  floor_size nan w = zero-le
  floor_size (inf true) w = absurd (not_minus_inf w.hi n w.whole w.low)
  floor_size (inf false) w = absurd (not_inf w.hi n w.whole w.high)
  floor_size (fin false m e) w = size_of_lem false n _ b (cut_le (m * up e) (down e) n (down_pos e) (ge_whole w.hi n m e w.whole w.high))
  floor_size (fin true m e) w = size_of_lem true n _ b (taken_le (m * up e) (down e) n (down_pos e) (ge_minus w.hi n m e w.whole w.low))

  pub ceil_size : (v : Float) → Sized n v → nat_abs (to_signed 31 (ceil_of v)) ≤ n
  unfolding ceil_of to_signed
  ceil_size nan w = zero-le
  ceil_size (inf true) w = absurd (not_minus_inf w.hi n w.whole w.low)
  ceil_size (inf false) w = absurd (not_inf w.hi n w.whole w.high)
  ceil_size (fin false m e) w = size_of_lem false n _ b (taken_le (m * up e) (down e) n (down_pos e) (ge_whole w.hi n m e w.whole w.high))
  ceil_size (fin true m e) w = size_of_lem true n _ b (cut_le (m * up e) (down e) n (down_pos e) (ge_minus w.hi n m e w.whole w.low))

-- ---- an index as the machine reads it back from the bits of an `i32`, and as a natural number
pub read_back : (n : ℕ) (z : ℤ) → n ≤ 2 ^ 24 → Index n z → Index n (to_z w32 (of_z w32 z))
read_back n z b i =
    subst (Index n) (sym (to_z-of_z w32 z (record { sfits = subst (λ (k : ℤ). mag k < 2 ^ 31) (sym i.is) (lt_of_le_of_lt (le_trans i.within b) (lit< tt)) }))) i

pub index_sign : (n : ℕ) (z : ℤ) → Index n z → T (non_neg z)
index_sign n z i = subst (λ (k : ℤ). T (non_neg k)) (sym i.is) tt

pub index_size : (n : ℕ) (z : ℤ) → Index n z → nat_abs z ≤ n
index_size n z i = subst (λ (k : ℤ). nat_abs k ≤ n) (sym i.is) i.within

or_none : (a b : Bool) → T (not (a || b)) → T (not a)
or_none true b t = t
or_none false b t = tt

min_le : (a c : ℕ) → min a c ≤ a
min_le a c = omega arith

-- hi is the whole number n, and not at most m * 2 ^ e
gt_whole : (hi : Float) (n m : ℕ) (e : ℤ) → HasValue hi false n 1 → T (not (le hi (fin false m e))) → m * up e < n * down e
gt_whole hi n m e v t =
    lt_of_not-le (λ (k : n * down e ≤ m * up e). T_not (le hi (fin false m e)) t
    (le_of hi (fin false m e) false false n 1 (m * up e) (down e) (pow_pos 0) (down_pos e) v (refl, refl) (le_trans k (le_of_eq (sym (mul-one (m * up e)))))))

-- ---- a float that is not n or more, cut to a whole number, is an index below n: a table of n entries
pub cut_below : (w n : ℕ) (v hi : Float) → 0 < n → HasValue hi false n 1 → T (not (le hi v)) → to_unsigned w v < n
unfolding to_unsigned le lt
cut_below w n nan hi p h t = p
cut_below w n (inf true) hi p h t = p
cut_below w n (inf false) hi p h t = absurd (not_inf hi n h (or_none (lt hi (inf false)) (eq hi (inf false)) t))
cut_below w n (fin true m e) hi p h t = p
cut_below w n (fin false m e) hi p h t = lt_of_le_of_lt (min_le (m * up e / down e) (2 ^ w - 1)) ((div-lt_iff_lt-mul (down_pos e)).1 (gt_whole hi n m e h t))

-- ---- the range that a test of a float leaves: `lo <= x` and `x <= hi`, which no NaN passes
pub sized_of_tests : (n : ℕ) (x hi : Float) → HasValue hi false n 1 → T (le (neg hi) x) → T (le x hi) → Sized n x
sized_of_tests n x hi v a b = record { hi = hi; whole = v; low = not_lt_of_le (neg hi) x a; high = not_lt_of_le x hi b }

-- the smaller or larger of two floats is one of them
pick : (P : Float → Type 0) (t : Bool) (a b : Float) → P a → P b → P (cond t a b)
pick P true a b p q = p
pick P false a b p q = q

pub min_sized : (n : ℕ) (a b : Float) → Sized n a → Sized n b → Sized n (min_of a b)
min_sized n a b p q = pick (Sized n) (lt b a) b (cond (ne a a) b a) q (pick (Sized n) (ne a a) b a q p)

pub max_sized : (n : ℕ) (a b : Float) → Sized n a → Sized n b → Sized n (max_of a b)
max_sized n a b p q = pick (Sized n) (lt a b) b (cond (ne a a) b a) q (pick (Sized n) (ne a a) b a q p)

-- an integer up to 2 ^ 24 either way is an f32: what `z as f32` asks
pub in_float_signed : (z : ℤ) → nat_abs z ≤ 2 ^ 24 → T (in_float binary32 z)
unfolding in_float
in_float_signed (pos k) h = le→leb k (2 ^ 24) h
in_float_signed (negsuc k) h = lt→ltb k (2 ^ 24) h
