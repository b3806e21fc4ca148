-- What `cut` is given by the conversions, and that its answer is theirs, at any width. Assumes nothing.
use Rattle.std.proofs.Common.{◌≡◌, ℕ, zero, suc, ◌-◌, ◌^◌, ◌≤◌, min, Bool, true, false, cond, not, T, ◌⊎◌, pos, sym, refl, ap, ◌∙◌, inl, inr, zero-lt-suc, arith, lit≤, T_not}
use lib.Ieee.{Float, nan, inf, fin, lt, to_unsigned}
use lib.Ieee.Bits.{is_true}
use Rattle.mathf.proofs.Compared.{above_zero}
use Rattle.mathf.proofs.Saturating.{passed, failed, inside_T, above, neg_under, pos_over}
use Rattle.mathf.proofs.Floors.{zero_cut, above_asks}

-- 0, 255, 256
abbrev z0 : Float
z0 = fin false 0 (pos 0)

abbrev z255 : Float
z255 = fin false 255 (pos 0)

abbrev z256 : Float
z256 = fin false 1 (pos 8)

-- not above zero, or a NaN
none_T : (w : ℕ) (x : Float) → T (not (lt z0 x)) → 0 ≡ to_unsigned w x
unfolding lt to_unsigned
none_T w nan a = refl
none_T w (inf true) a = refl
none_T w (inf false) a = absurd a
none_T w (fin true m e) a = refl
none_T w (fin false zero e) a = sym (ap (λ (n : ℕ). min n (2 ^ w - 1)) (zero_cut zero e refl) ∙ least (2 ^ w - 1))
  where
    least : (c : ℕ) → min 0 c ≡ 0
    least c = omega arith
none_T w (fin false (suc m) e) a = absurd (T_not (lt z0 (fin false (suc m) e)) a (above_zero (suc m) e (zero-lt-suc m)))

pub none : (w : ℕ) (x : Float) → lt z0 x ≡ false → 0 ≡ to_unsigned w x
none w x a = none_T w x (failed a)

-- c is what `cut` takes, and its whole part is that of x, as w bits hold it
pub record Taken (w : ℕ) (x c : Float) : Type 0 where
  pub sign : T (lt z0 c) ⊎ (c ≡ z0)
  pub small : T (lt c (fin false 1 (pos 23)))
  pub same : to_unsigned 23 c ≡ to_unsigned w x

zero_taken : (w : ℕ) (x : Float) → lt z0 x ≡ false → Taken w x z0
unfolding lt to_unsigned
zero_taken w x a = record { sign = inr refl; small = tt; same = none w x a }

-- x below 2 ^ 23, from zero up
pub from_zero : (w : ℕ) (x : Float) → 23 ≤ w → lt x (fin false 1 (pos 23)) ≡ true → Taken w x (cond (lt z0 x) x z0)
from_zero w x k h = go (lt z0 x) refl
  where
    go : (t : Bool) → lt z0 x ≡ t → Taken w x (cond t x z0)
    go true e = record { sign = inl (passed e); small = passed h; same = sym (inside_T 23 w x k (above_asks x (passed e)) (passed h)).same }
    go false e = zero_taken w x e

-- any x, from zero up and no more than 255
pub byte : (x : Float) → Taken 8 x (cond (lt (cond (lt z0 x) x z0) z256) (cond (lt z0 x) x z0) z255)
unfolding lt to_unsigned
byte x = go (lt z0 x) refl
  where
    top : (t : Bool) → lt x z256 ≡ t → lt z0 x ≡ true → Taken 8 x (cond t x z255)
    top true e a = let i = inside_T 8 23 x (lit≤ tt) (above_asks x (passed a)) (passed e) in record { sign = inl (passed a); small = i.high; same = i.same }
    top false e a = record { sign = inl tt; small = tt; same = above 8 x (is_true (lt (fin true 1 (pos 0)) x) (above_asks x (passed a))) e }

    go : (t : Bool) → lt z0 x ≡ t → Taken 8 x (cond (lt (cond t x z0) z256) (cond t x z0) z255)
    go true e = top (lt x z256) refl e
    go false e = zero_taken 8 x e

-- from 2 ^ 23 up
far_T : (w : ℕ) (x : Float) → T (not (lt x (fin false 1 (pos 23)))) → T (lt x (fin false 1 (pos w))) → T (lt (fin true 1 (pos 0)) x)
unfolding lt
far_T w nan a b = absurd b
far_T w (inf true) a b = absurd a
far_T w (inf false) a b = absurd b
far_T w (fin true m e) a b = absurd (T_not (lt (fin true m e) (fin false 1 (pos 23))) a (neg_under m e 23))
far_T w (fin false m e) a b = pos_over m e 0

pub far : (w : ℕ) (x : Float) → lt x (fin false 1 (pos 23)) ≡ false → lt x (fin false 1 (pos w)) ≡ true → lt (fin true 1 (pos 0)) x ≡ true
far w x a b = is_true (lt (fin true 1 (pos 0)) x) (far_T w x (failed a) (passed b))

-- past the type's end
pub top : (w : ℕ) (x : Float) → lt z0 x ≡ true → lt x (fin false 1 (pos w)) ≡ false → 2 ^ w - 1 ≡ to_unsigned w x
top w x a b = above w x (is_true (lt (fin true 1 (pos 0)) x) (above_asks x (passed a))) b
