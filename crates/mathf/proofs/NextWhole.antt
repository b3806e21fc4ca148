-- Why `floor_of` and `ceil_of` are the whole numbers next to a float: the greatest not above it, and the least not below it. Assumes nothing.
use Rattle.std.proofs.Common.{ℕ, zero, suc, ◌+◌, ◌-◌, ◌*◌, ◌^◌, ◌<◌, ◌≤◌, Bool, true, false, not, T, ℤ, pos, negsuc, sym, refl, ap, ◌∙◌, subst, zero-le, le_trans, le_of_eq, add-zero, le_of_lt, lt-suc_self, suc-mul, div-lt_iff_lt-mul, mul-le-mul_left, le-div_iff_mul-le, zero-mul, mul-one, div-mul-le_self, le_of_mul-le-mul_right, div-one, arith, pow_pos}
use lib.Ieee.{Float, nan, inf, fin, binary32, up, down, neg, le, fits}
use lib.Ieee.Back.{round_whole}
use lib.Ieee.Exact.{HasValue}
use lib.Ieee.Fits.{down_pos, neg-fits}
use lib.Ieee.Scale.{finite}
use Rattle.mathf.specs.F32.{◌≤ᶠ◌}
use Rattle.mathf.specs.Whole.{floor_of, ceil_of, whole_of, cut_down, taken_up}
use Rattle.mathf.specs.Trust.{HasSign, LastBefore}
use Rattle.mathf.proofs.Floors.{fit_parts, whole_value, ceil_is}
use Rattle.mathf.proofs.Bounds.{cut_le, taken_le}
use Rattle.mathf.proofs.Compared.{AtMost, left_zero, right_zero, le_of, of_le, whole_value_of, le_neg, neg_neg, neg_finite}

-- ---- the whole numbers next to an f32 are f32
few : (s : Bool) (m : ℕ) (e : ℤ) → T (fits binary32 (fin s m e)) → m ≤ 2 ^ 24
few s zero e t = zero-le
few s (suc m) e t = le_of_lt (fit_parts s m e t).0

-- m is at most m * d
grown : (m d : ℕ) → 0 < d → m * 1 ≤ m * d
grown m d h = mul-le-mul_left m h

cut_value : (s : Bool) (m : ℕ) (e : ℤ) → T (fits binary32 (fin s m e)) → HasValue (whole_of s (cut_down (m * up e) (down e))) s (cut_down (m * up e) (down e)) 1
cut_value s m (pos k) t = subst (λ (z : ℕ). HasValue (whole_of s z) s z 1) (sym (div-one (m * 2 ^ k))) (whole_value s m k t)
cut_value s m (negsuc k) t = round_whole binary32 s _ (le_trans (cut_le (m * 1) (2 ^ suc k) m (pow_pos (suc k)) (grown m (2 ^ suc k) (pow_pos (suc k)))) (few s m (negsuc k) t))

taken_value : (s : Bool) (m : ℕ) (e : ℤ) → T (fits binary32 (fin s m e)) → HasValue (whole_of s (taken_up (m * up e) (down e))) s (taken_up (m * up e) (down e)) 1
taken_value s m (pos k) t = subst (λ (z : ℕ). HasValue (whole_of s z) s z 1) (sym (div-one (m * 2 ^ k + 0) ∙ add-zero (m * 2 ^ k))) (whole_value s m k t)
taken_value s m (negsuc k) t = round_whole binary32 s _ (le_trans (taken_le (m * 1) (2 ^ suc k) m (pow_pos (suc k)) (grown m (2 ^ suc k) (pow_pos (suc k)))) (few s m (negsuc k) t))

-- a ≤ taken_up a d * d
taken_ge : (a d : ℕ) → 0 < d → a ≤ taken_up a d * d
taken_ge a d h = room (taken_up a d * d) (rw suc-mul at ((div-lt_iff_lt-mul h).0 (lt-suc_self (taken_up a d))))
  where
    room : (x : ℕ) → a + (d - 1) < x + d → a ≤ x
    room x l = omega arith

-- ---- floor
last_cut : (s : Bool) (n a d : ℕ) → 0 < d → AtMost s (n * d) false (a * 1) → AtMost s (n * 1) false (cut_down a d * 1)
last_cut true n a d p h = tt
last_cut false n a d p h = ones n (cut_down a d) ((le-div_iff_mul-le p).1 (le_trans h (le_of_eq (mul-one a))))
  where
    ones : (n q : ℕ) → n ≤ q → n * 1 ≤ q * 1
    ones n q h = omega arith

last_taken : (s : Bool) (n a d : ℕ) → 0 < d → AtMost s (n * d) true (a * 1) → AtMost s (n * 1) true (taken_up a d * 1)
last_taken true n a d p h = ones n (taken_up a d) (taken_le a d n p (le_trans (le_of_eq (sym (mul-one a))) h))
  where
    ones : (n q : ℕ) → q ≤ n → q * 1 ≤ n * 1
    ones n q h = omega arith
last_taken false n a d p h =
    none n (taken_up a d) (le_of_mul-le-mul_right (le_trans (left_zero (n * d) (a * 1) h) (le_of_eq (sym (zero-mul d)))) p)
    (taken_le a d 0 p (le_trans (le_of_eq (sym (mul-one a))) (le_trans (right_zero (n * d) (a * 1) h) (le_of_eq (sym (zero-mul d))))))
  where
    none : (n q : ℕ) → n ≤ 0 → q ≤ 0 → n * 1 + q * 1 ≤ 0
    none n q g h = omega arith

pub floor_last : (x : Float) → T (fits binary32 x) → T (finite x) → LastBefore (λ a b. a ≤ᶠ b) x (floor_of x)
unfolding floor_of
floor_last nan t p = absurd p
floor_last (inf s) t p = absurd p
floor_last (fin false m e) t p =
    let a = m * up e in
    let d = down e in
    let q = cut_down a d in
    let v = cut_value false m e t in
    record {
      sign = false;
      size = q;
      signed = refl;
      whole = v;
      itself = le_of (whole_of false q) (fin false m e) false false q 1 a d (pow_pos 0) (down_pos e) v (refl, refl) (le_trans (div-mul-le_self a d) (le_of_eq (sym (mul-one a))));
      last = λ s n h.
          le_of (fin s n (pos 0)) (whole_of false q) s false n 1 q 1 (pow_pos 0) (pow_pos 0) (whole_value_of s n) v
          (last_cut s n a d (down_pos e) (of_le (fin s n (pos 0)) (fin false m e) s false n 1 a d (pow_pos 0) (down_pos e) (whole_value_of s n) (refl, refl) h));
    }
floor_last (fin true m e) t p =
    let a = m * up e in
    let d = down e in
    let q = taken_up a d in
    let v = taken_value true m e t in
    record {
      sign = true;
      size = q;
      signed = refl;
      whole = v;
      itself = le_of (whole_of true q) (fin true m e) true true q 1 a d (pow_pos 0) (down_pos e) v (refl, refl) (le_trans (le_of_eq (mul-one a)) (taken_ge a d (down_pos e)));
      last = λ s n h.
          le_of (fin s n (pos 0)) (whole_of true q) s true n 1 q 1 (pow_pos 0) (pow_pos 0) (whole_value_of s n) v
          (last_taken s n a d (down_pos e) (of_le (fin s n (pos 0)) (fin true m e) s true n 1 a d (pow_pos 0) (down_pos e) (whole_value_of s n) (refl, refl) h));
    }

-- ---- ceil: the floor of -x, upside down
neg_value : (r : Float) (s : Bool) (a c : ℕ) → HasValue r s a c → HasValue (neg r) (not s) a c
unfolding neg
neg_value nan s a c v = v
neg_value (inf t) s a c v = v
neg_value (fin t m e) s a c v = (ap not v.0, v.1)

-- the sign of x, from that of -x
neg_sign : (x : Float) (s : Bool) → HasSign (neg x) s → HasSign x (not s)
unfolding neg
neg_sign nan s v = v
neg_sign (inf t) s v = v
neg_sign (fin true m e) s v = ap not v
neg_sign (fin false m e) s v = ap not v

upside_down : (x r : Float) → LastBefore (λ a b. a ≤ᶠ b) (neg x) r → LastBefore (λ a b. b ≤ᶠ a) x (neg r)
unfolding neg
upside_down x r l = record {
  sign = not l.sign;
  size = l.size;
  signed = neg_sign x l.sign l.signed;
  whole = neg_value r l.sign l.size 1 l.whole;
  itself = subst (λ (z : Float). T (le z (neg r))) (neg_neg x) (le_neg r (neg x) l.itself);
  last = λ s n h. subst (λ (z : Float). T (le (neg r) z)) (neg_neg (fin s n (pos 0))) (le_neg (fin (not s) n (pos 0)) r (l.last (not s) n (le_neg x (fin s n (pos 0)) h)));
}

pub ceil_last : (x : Float) → T (fits binary32 x) → T (finite x) → LastBefore (λ a b. b ≤ᶠ a) x (ceil_of x)
ceil_last x t p = subst (LastBefore (λ a b. b ≤ᶠ a) x) (ceil_is x) (upside_down x (floor_of (neg x)) (floor_last (neg x) (neg-fits binary32 x t) (neg_finite x p)))
