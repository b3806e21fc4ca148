-- The operations keep the order: of two numbers the larger has a sum, a difference, a root, a floor and a ceiling that are no smaller, and a product if neither is below zero. A rounded result may be an infinity. Assumes nothing.
use Rattle.std.proofs.Common.{◌≡◌, ℕ, zero, suc, ◌+◌, ◌-◌, ◌*◌, ◌/◌, ◌^◌, ◌<◌, ◌≤◌, min, Bool, true, false, cond, not, T, ltb, ℤ, pos, sym, refl, ap, ◌∙◌, subst, true≢false, zero-le, le_trans, le_of_eq, le_refl, le-add_right, zero-lt-suc, mul_comm, add-mul, mul-le-mul, mul-pos, mul-zero, zero-mul, not-le_of_lt, le_of_mul-le-mul_right, arith, ltb→lt, lt→ltb, nltb→le, pow_pos}
use native.Mathlib.Nat.{zero-div, mul-mul-mul_comm}
use lib.Arith.{le-zero}
use lib.Ieee.{Float, nan, inf, fin, Format, binary32, prec, up, down, round, unlike, sum, add, sub, mul, neg, lt, eq, le, units, fits, low, emax, odd, to_unsigned}
use lib.Ieee.Exact.{HasValue, round_exact, odd_sign}
use lib.Ieee.Fits.{up_pos, down_pos, round_is, neg-fits}
use lib.Ieee.Nearest.{div_mono}
use lib.Ieee.Order.{round_mono}
use lib.Ieee.Scale.{finite}
use Rattle.mathf.specs.Root.{root_units, sqrt_of}
use Rattle.mathf.specs.Whole.{floor_of, ceil_of}
use Rattle.mathf.proofs.Compared.{AtMost, at_most_same, left_zero, right_zero, at_most, from_at_most, at_most_times, not_lt_of_le, no_size, negative, le_of, le_neg, neg_finite, le_through, whole_value_of}
use Rattle.mathf.proofs.Floors.{neg_round, ceil_is}
use Rattle.mathf.proofs.Nearest.{root_mono}
use Rattle.mathf.proofs.NextWhole.{floor_last}

-- ---- a signed number ±a as a difference, what it adds and what it takes
abbrev adds : Bool → ℕ → ℕ
adds true a = 0
adds false a = a

abbrev takes : Bool → ℕ → ℕ
takes true a = a
takes false a = 0

ordered : (s t : Bool) (a b : ℕ) → AtMost s a t b → adds s a + takes t b ≤ adds t b + takes s a
ordered false false a b h = omega arith
ordered false true a b h = omega arith
ordered true false a b h = omega arith
ordered true true a b h = omega arith

from_ordered : (s t : Bool) (a b : ℕ) → adds s a + takes t b ≤ adds t b + takes s a → AtMost s a t b
from_ordered false false a b h = omega arith
from_ordered false true a b h = omega arith
from_ordered true false a b h = tt
from_ordered true true a b h = omega arith

-- ---- ±m is the sum of ±a and ±b
abbrev SumIs : Bool → ℕ → Bool → ℕ → Bool → ℕ → Type 0
SumIs u m s a t b = adds u m + takes s a + takes t b ≡ takes u m + adds s a + adds t b

sum_times : (u s t : Bool) (m a b k : ℕ) → SumIs u m s a t b → SumIs u (m * k) s (a * k) t (b * k)
sum_times u s t m a b k e =
    rw (adds_times u m, takes_times s a, takes_times t b, takes_times u m, adds_times s a, adds_times t b)
    (sym (parts (adds u m) (takes s a) (takes t b)) ∙ ap (λ (z : ℕ). z * k) e ∙ parts (takes u m) (adds s a) (adds t b))
  where
    adds_times : (s : Bool) (a : ℕ) → adds s (a * k) ≡ adds s a * k
    adds_times true a = sym (zero-mul k)
    adds_times false a = refl

    takes_times : (s : Bool) (a : ℕ) → takes s (a * k) ≡ takes s a * k
    takes_times true a = refl
    takes_times false a = sym (zero-mul k)

    parts : (x y z : ℕ) → (x + y + z) * k ≡ x * k + y * k + z * k
    parts x y z = add-mul (x + y) z k ∙ ap (λ (w : ℕ). w + z * k) (add-mul x y k)

sum_order : (u s t u' s' t' : Bool) (m a b m' a' b' : ℕ) → SumIs u m s a t b → SumIs u' m' s' a' t' b' → AtMost s a s' a' → AtMost t b t' b' → AtMost u m u' m'
sum_order u s t u' s' t' m a b m' a' b' e e' h k =
    from_ordered u u' m m' (go (adds u m) (takes u m) (adds s a) (takes s a) (adds t b) (takes t b) (adds u' m') (takes u' m') (adds s' a') (takes s' a') (adds t' b') (takes t' b') e e' (ordered s s' a a' h) (ordered t t' b b' k))
  where
    go : (p n pa na pb nb p' n' pa' na' pb' nb' : ℕ) → p + na + nb ≡ n + pa + pb → p' + na' + nb' ≡ n' + pa' + pb' → pa + na' ≤ pa' + na → pb + nb' ≤ pb' + nb → p + n' ≤ p' + n
    go p n pa na pb nb p' n' pa' na' pb' nb' e e' h k = omega arith

-- ---- `sum` rounds it: x is ±`size` / c, rounded
record Summed (f : Format) (x : Float) (s : Bool) (a : ℕ) (t : Bool) (b c : ℕ) : Type 0 where
  sign : Bool
  size : ℕ
  is : x ≡ round f sign size c
  value : SumIs sign size s a t b

summed : (f : Format) (s : Bool) (a : ℕ) (t : Bool) (b c : ℕ) → Summed f (sum f s a t b c) s a t b c
unfolding sum
summed f false a false b c = record { sign = false; size = a + b; is = refl; value = omega arith }
summed f true a true b c = record { sign = true; size = a + b; is = refl; value = omega arith }
summed f false a true b c = go (ltb a b) (ltb→lt a b) (nltb→le a b)
  where
    go : (q : Bool) → (T q → a < b) → (T (not q) → b ≤ a) → Summed f (cond q (round f true (b - a) c) (round f false (a - b) c)) false a true b c
    go true l g = let h = l tt in record { sign = true; size = b - a; is = refl; value = omega arith }
    go false l g = let h = g tt in record { sign = false; size = a - b; is = refl; value = omega arith }
summed f true a false b c = go (ltb a b) (ltb b a) (ltb→lt a b) (nltb→le a b) (nltb→le b a)
  where
    go : (q r : Bool) → (T q → a < b) → (T (not q) → b ≤ a) → (T (not r) → a ≤ b) → Summed f (cond q (round f false (b - a) c) (round f r (a - b) c)) true a false b c
    go true r l g k = let h = l tt in record { sign = false; size = b - a; is = refl; value = omega arith }
    go false true l g k = let h = g tt in record { sign = true; size = a - b; is = refl; value = omega arith }
    go false false l g k = let h = g tt in let i = k tt in record { sign = false; size = a - b; is = refl; value = omega arith }

-- ---- rounding keeps the order of signed numbers
-- x has the sign s, and is no NaN
abbrev Sign : Float → Bool → Type 0
Sign nan s = ⊥
Sign (inf t) s = t ≡ s
Sign (fin t m e) s = t ≡ s

sign_of_value : (x : Float) (s : Bool) (a c : ℕ) → HasValue x s a c → Sign x s
sign_of_value nan s a c v = v
sign_of_value (inf t) s a c v = absurd v
sign_of_value (fin t m e) s a c v = v.0

units_sign : (f : Format) (s : Bool) (q k : ℕ) → Sign (units f s q k) s
unfolding units
units_sign f s q k = go (ltb (q * 2 ^ k) (2 ^ (low f + suc (emax f))))
  where
    go : (b : Bool) → Sign (cond b (odd (suc (prec f)) s q k (low f)) (inf s)) s
    go true = sign_of_value (odd (suc (prec f)) s q k (low f)) s (q * 2 ^ k) (2 ^ low f) (odd_sign (suc (prec f)) s q k (low f))
    go false = refl

round_sign : (f : Format) (s : Bool) (a c : ℕ) → Sign (round f s a c) s
round_sign f s a c = subst (λ (x : Float). Sign x s) (sym (round_is f s a c)) (units_sign f s _ _)

le_of_signs : (x y : Float) → Sign x true → Sign y false → T (le x y)
unfolding le lt eq
le_of_signs nan y p q = absurd p
le_of_signs (inf false) y p q = absurd (true≢false (sym p))
le_of_signs (fin false m e) y p q = absurd (true≢false (sym p))
le_of_signs (inf true) nan p q = absurd q
le_of_signs (inf true) (inf true) p q = tt
le_of_signs (inf true) (inf false) p q = tt
le_of_signs (inf true) (fin t n d) p q = tt
le_of_signs (fin true m e) nan p q = absurd q
le_of_signs (fin true m e) (inf true) p q = absurd (true≢false q)
le_of_signs (fin true m e) (inf false) p q = tt
le_of_signs (fin true m e) (fin true n d) p q = absurd (true≢false q)
le_of_signs (fin true m e) (fin false n d) p q = from_at_most true false (m * up e * down d) (n * up d * down e) tt

zero_value : (f : Format) (s : Bool) (a c : ℕ) → 0 < c → a ≡ 0 → HasValue (round f s a c) s 0 c
zero_value f s a c C z =
    subst (λ (n : ℕ). HasValue (round f s n c) s 0 c) (sym z)
    (round_exact f s 0 c 0 0 C (pow_pos (prec f)) (pow_pos (low f + suc (emax f))) (zero-mul (2 ^ low f) ∙ sym (zero-mul c)))

pub round_order : (f : Format) (s t : Bool) (a c b d : ℕ) → 0 < c → 0 < d → AtMost s (a * d) t (b * c) → T (le (round f s a c) (round f t b d))
round_order f false false a c b d C D h = round_mono f a c b d C D h
round_order f true false a c b d C D h = le_of_signs (round f true a c) (round f false b d) (round_sign f true a c) (round_sign f false b d)
round_order f true true a c b d C D h =
    subst (λ (x : Float). T (le x (round f true b d))) (neg_round f false a c)
    (subst (λ (y : Float). T (le (neg (round f false a c)) y)) (neg_round f false b d) (le_neg (round f false b d) (round f false a c) (round_mono f b d a c D C h)))
round_order f false true a c b d C D h =
    le_of (round f false a c) (round f true b d) false true 0 c 0 d C D
    (zero_value f false a c C (none a d D (left_zero (a * d) (b * c) h))) (zero_value f true b d D (none b c C (right_zero (a * d) (b * c) h)))
    (zeros c d)
  where
    zeros : (c d : ℕ) → 0 * d + 0 * c ≤ 0
    zeros c d = omega arith

    none : (m k : ℕ) → 0 < k → m * k ≤ 0 → m ≡ 0
    none m k p h = le-zero (le_of_mul-le-mul_right (le_trans h (le_of_eq (sym (zero-mul k)))) p)

-- ---- sums and differences of finite numbers
pub add_mono : (f : Format) (x x' y y' : Float) → T (finite x) → T (finite x') → T (finite y) → T (finite y') → T (le x x') → T (le y y') → T (le (add f x y) (add f x' y'))
unfolding le lt eq add
add_mono f nan x' y y' p p' q q' h k = absurd p
add_mono f (inf s) x' y y' p p' q q' h k = absurd p
add_mono f (fin s m e) nan y y' p p' q q' h k = absurd p'
add_mono f (fin s m e) (inf s') y y' p p' q q' h k = absurd p'
add_mono f (fin s m e) (fin s' m' e') nan y' p p' q q' h k = absurd q
add_mono f (fin s m e) (fin s' m' e') (inf t) y' p p' q q' h k = absurd q
add_mono f (fin s m e) (fin s' m' e') (fin t n d) nan p p' q q' h k = absurd q'
add_mono f (fin s m e) (fin s' m' e') (fin t n d) (inf t') p p' q q' h k = absurd q'
add_mono f (fin s m e) (fin s' m' e') (fin t n d) (fin t' n' d') p p' q q' h k =
    let a = m * up e in
    let a' = m' * up e' in
    let b = n * up d in
    let b' = n' * up d' in
    let c = down e * down d in
    let c' = down e' * down d' in
    let w = summed f s (a * down d) t (b * down e) c in
    let w' = summed f s' (a' * down d') t' (b' * down e') c' in
    subst (λ (z : Float). T (le z (sum f s' (a' * down d') t' (b' * down e') c'))) (sym w.is)
    (subst (λ (z : Float). T (le (round f w.sign w.size c) z)) (sym w'.is)
    (round_order f w.sign w'.sign w.size c w'.size c' (mul-pos (down_pos e) (down_pos d)) (mul-pos (down_pos e') (down_pos d'))
    (sum_order w.sign s t w'.sign s' t' (w.size * c') (a * down d * c') (b * down e * c') (w'.size * c) (a' * down d' * c) (b' * down e' * c)
    (sum_times w.sign s t w.size (a * down d) (b * down e) c' w.value) (sum_times w'.sign s' t' w'.size (a' * down d') (b' * down e') c w'.value)
    (crossed s s' a (down e') a' (down e) (down d) (down d') refl refl (at_most s s' (a * down e') (a' * down e) h))
    (crossed t t' b (down d') b' (down d) (down e) (down e') (mul_comm (down d') (down e')) (mul_comm (down d) (down e)) (at_most t t' (b * down d') (b' * down d) k)))))
  where
    -- both sides times u * v
    crossed : (s s' : Bool) (a g a' g' u v : ℕ) {w w' : ℕ} → g * v ≡ w → g' * u ≡ w' → AtMost s (a * g) s' (a' * g') → AtMost s (a * u * w) s' (a' * v * w')
    crossed s s' a g a' g' u v {w} {w'} p q h =
        subst (λ (z : ℕ). AtMost s z s' (a' * v * w')) (mul-mul-mul_comm a g u v ∙ ap (λ (z : ℕ). a * u * z) p)
        (subst (λ (z : ℕ). AtMost s (a * g * (u * v)) s' z) (ap (λ (z : ℕ). a' * g' * z) (mul_comm u v) ∙ mul-mul-mul_comm a' g' v u ∙ ap (λ (z : ℕ). a' * v * z) q)
        (at_most_times s s' (a * g) (a' * g') (u * v) h))

pub sub_mono : (f : Format) (x x' y y' : Float) → T (finite x) → T (finite x') → T (finite y) → T (finite y') → T (le x x') → T (le y' y) → T (le (sub f x y) (sub f x' y'))
unfolding sub
sub_mono f x x' y y' p p' q q' h k = add_mono f x x' (neg y) (neg y') p p' (neg_finite y q) (neg_finite y' q') h (le_neg y' y k)

-- ---- products of numbers that are not below zero: a negative one is -0
minus_zero : (s : Bool) (m : ℕ) (e : ℤ) → T (le (fin false 0 (pos 0)) (fin s m e)) → s ≡ true → m * up e ≡ 0
minus_zero false m e h p = absurd (true≢false (sym p))
minus_zero true m e h p = ap (λ (k : ℕ). k * up e) (no_size m e (not_lt_of_le (fin false 0 (pos 0)) (fin true m e) h)) ∙ zero-mul (up e)

size_order : (s t : Bool) (a b : ℕ) → (s ≡ true → a ≡ 0) → AtMost s a t b → a ≤ b
size_order true t a b z h = subst (λ (k : ℕ). k ≤ b) (sym (z refl)) zero-le
size_order false false a b z h = h
size_order false true a b z h = omega arith

from_size_order : (s t : Bool) (a b : ℕ) → (t ≡ true → b ≡ 0) → a ≤ b → AtMost s a t b
from_size_order false false a b z h = h
from_size_order false true a b z h = let e = z refl in omega arith
from_size_order true false a b z h = tt
from_size_order true true a b z h = let e = z refl in omega arith

no_product : (s t : Bool) (a b k : ℕ) → (s ≡ true → a ≡ 0) → (t ≡ true → b ≡ 0) → unlike s t ≡ true → a * b * k ≡ 0
no_product true t a b k z y p = ap (λ (i : ℕ). i * b * k) (z refl) ∙ ap (λ (i : ℕ). i * k) (zero-mul b) ∙ zero-mul k
no_product false true a b k z y p = ap (λ (i : ℕ). a * i * k) (y refl) ∙ ap (λ (i : ℕ). i * k) (mul-zero a) ∙ zero-mul k
no_product false false a b k z y p = absurd (true≢false (sym p))

pub mul_mono : (f : Format) (x x' y y' : Float) → T (finite x) → T (finite x') → T (finite y) → T (finite y') → T (le (fin false 0 (pos 0)) x) → T (le (fin false 0 (pos 0)) y) → T (le x x') → T (le y y') → T (le (mul f x y) (mul f x' y'))
unfolding le lt eq mul
mul_mono f nan x' y y' p p' q q' i j h k = absurd p
mul_mono f (inf s) x' y y' p p' q q' i j h k = absurd p
mul_mono f (fin s m e) nan y y' p p' q q' i j h k = absurd p'
mul_mono f (fin s m e) (inf s') y y' p p' q q' i j h k = absurd p'
mul_mono f (fin s m e) (fin s' m' e') nan y' p p' q q' i j h k = absurd q
mul_mono f (fin s m e) (fin s' m' e') (inf t) y' p p' q q' i j h k = absurd q
mul_mono f (fin s m e) (fin s' m' e') (fin t n d) nan p p' q q' i j h k = absurd q'
mul_mono f (fin s m e) (fin s' m' e') (fin t n d) (inf t') p p' q q' i j h k = absurd q'
mul_mono f (fin s m e) (fin s' m' e') (fin t n d) (fin t' n' d') p p' q q' i j h k =
    let a = m * up e in
    let a' = m' * up e' in
    let b = n * up d in
    let b' = n' * up d' in
    let zero = fin false 0 (pos 0) in
    let a_le = size_order s s' (a * down e') (a' * down e) (λ z. ap (λ (w : ℕ). w * down e') (minus_zero s m e i z) ∙ zero-mul (down e')) (at_most s s' (a * down e') (a' * down e) h) in
    let b_le = size_order t t' (b * down d') (b' * down d) (λ z. ap (λ (w : ℕ). w * down d') (minus_zero t n d j z) ∙ zero-mul (down d')) (at_most t t' (b * down d') (b' * down d) k) in
    round_order f (unlike s t) (unlike s' t') (a * b) (down e * down d) (a' * b') (down e' * down d') (mul-pos (down_pos e) (down_pos d)) (mul-pos (down_pos e') (down_pos d'))
    (from_size_order (unlike s t) (unlike s' t') (a * b * (down e' * down d')) (a' * b' * (down e * down d))
    (no_product s' t' a' b' (down e * down d) (minus_zero s' m' e' (le_through zero (fin s m e) (fin s' m' e') i h)) (minus_zero t' n' d' (le_through zero (fin t n d) (fin t' n' d') j k)))
    (le_trans (le_of_eq (mul-mul-mul_comm a b (down e') (down d'))) (le_trans (mul-le-mul a_le b_le) (le_of_eq (mul-mul-mul_comm a' (down e) b' (down d))))))

-- ---- roots
zero_first : (s : Bool) (e : ℤ) (y : Float) → Sign y false → T (le (fin s zero e) y)
unfolding le lt eq
zero_first s e nan q = absurd q
zero_first s e (inf true) q = absurd (true≢false q)
zero_first s e (inf false) q = tt
zero_first s e (fin true n d) q = absurd (true≢false q)
zero_first s e (fin false n d) q = from_at_most s false (zero * up e * down d) (n * up d * down e) (least s)
  where
    least : (s : Bool) → AtMost s (zero * up e * down d) false (n * up d * down e)
    least true = tt
    least false = le_trans (le_of_eq (ap (λ (w : ℕ). w * down d) (zero-mul (up e)) ∙ zero-mul (down d))) zero-le

infinity_last : (x : Float) (s : Bool) → Sign x s → T (le x (inf false))
unfolding le lt eq
infinity_last nan s p = absurd p
infinity_last (inf true) s p = tt
infinity_last (inf false) s p = tt
infinity_last (fin t m e) s p = tt

above_not_zero : (m : ℕ) (e : ℤ) (t : Bool) (d : ℤ) → T (le (fin false (suc m) e) (fin t zero d)) → ⊥
unfolding le lt eq
above_not_zero m e t d h = go t (at_most false t (suc m * up e * down d) (zero * up d * down e) h)
  where
    above : 0 < suc m * up e * down d
    above = mul-pos (mul-pos (zero-lt-suc m) (up_pos e)) (down_pos d)

    none : zero * up d * down e ≡ 0
    none = ap (λ (w : ℕ). w * down e) (zero-mul (up d)) ∙ zero-mul (down e)

    go : (t : Bool) → AtMost false (suc m * up e * down d) t (zero * up d * down e) → ⊥
    go false l = not-le_of_lt above (le_trans l (le_of_eq none))
    go true l = not-le_of_lt above (le_trans (le-add_right (suc m * up e * down d) (zero * up d * down e)) l)

root_sign : (n : ℕ) → Sign (root_units n) false
unfolding root_units
root_sign n = round_sign binary32 false _ _

root_order : (x y : Float) → T (fits binary32 x) → T (fits binary32 y) → T (not (lt x (fin false 0 (pos 0)))) → T (not (lt y (fin false 0 (pos 0)))) → T (le x y) → T (le (sqrt_of x) (sqrt_of y))
unfolding sqrt_of le lt eq
root_order nan y f g a b h = absurd h
root_order (inf true) y f g a b h = absurd a
root_order (inf false) nan f g a b h = absurd h
root_order (inf false) (inf true) f g a b h = absurd h
root_order (inf false) (inf false) f g a b h = tt
root_order (inf false) (fin t n d) f g a b h = absurd h
root_order (fin s zero e) nan f g a b h = absurd h
root_order (fin s zero e) (inf true) f g a b h = absurd h
root_order (fin s zero e) (inf false) f g a b h = tt
root_order (fin s zero e) (fin t zero d) f g a b h = h
root_order (fin s zero e) (fin true (suc n) d) f g a b h = absurd (negative n d b)
root_order (fin s zero e) (fin false (suc n) d) f g a b h = zero_first s e (root_units _) (root_sign _)
root_order (fin true (suc m) e) y f g a b h = absurd (negative m e a)
root_order (fin false (suc m) e) nan f g a b h = absurd h
root_order (fin false (suc m) e) (inf true) f g a b h = absurd h
root_order (fin false (suc m) e) (inf false) f g a b h = infinity_last (root_units _) false (root_sign _)
root_order (fin false (suc m) e) (fin t zero d) f g a b h = absurd (above_not_zero m e t d h)
root_order (fin false (suc m) e) (fin true (suc n) d) f g a b h = absurd (negative n d b)
root_order (fin false (suc m) e) (fin false (suc n) d) f g a b h = root_mono (fin false (suc m) e) (fin false (suc n) d) f g (lt→ltb 0 (suc m) (zero-lt-suc m)) (lt→ltb 0 (suc n) (zero-lt-suc n)) h

pub sqrt_mono : (x y : Float) → T (fits binary32 x) → T (fits binary32 y) → T (le (fin false 0 (pos 0)) x) → T (le x y) → T (le (sqrt_of x) (sqrt_of y))
sqrt_mono x y f g a h = let zero = fin false 0 (pos 0) in root_order x y f g (not_lt_of_le zero x a) (not_lt_of_le zero y (le_through zero x y a h)) h

-- ---- whole numbers, and a float cut to one
same_value : (x y : Float) (s : Bool) (a : ℕ) → HasValue x s a 1 → HasValue y s a 1 → T (le x y)
same_value x y s a v w = le_of x y s s a 1 a 1 (pow_pos 0) (pow_pos 0) v w (at_most_same s (a * 1))

pub floor_mono : (x y : Float) → T (fits binary32 x) → T (fits binary32 y) → T (finite x) → T (finite y) → T (le x y) → T (le (floor_of x) (floor_of y))
floor_mono x y f g p q h =
    let l = floor_last x f p in
    let w = fin l.sign l.size (pos 0) in
    let v = whole_value_of l.sign l.size in
    le_through (floor_of x) w (floor_of y) (same_value (floor_of x) w l.sign l.size l.whole v)
    ((floor_last y g q).last l.sign l.size (le_through w x y (le_through w (floor_of x) x (same_value w (floor_of x) l.sign l.size v l.whole) l.itself) h))

pub ceil_mono : (x y : Float) → T (fits binary32 x) → T (fits binary32 y) → T (finite x) → T (finite y) → T (le x y) → T (le (ceil_of x) (ceil_of y))
ceil_mono x y f g p q h =
    subst (λ (z : Float). T (le z (ceil_of y))) (ceil_is x)
    (subst (λ (z : Float). T (le (neg (floor_of (neg x))) z)) (ceil_is y)
    (le_neg (floor_of (neg y)) (floor_of (neg x))
    (floor_mono (neg y) (neg x) (neg-fits binary32 y g) (neg-fits binary32 x f) (neg_finite y q) (neg_finite x p) (le_neg x y h))))

pub unsigned_mono : (w : ℕ) (x y : Float) → T (le x y) → to_unsigned w x ≤ to_unsigned w y
unfolding le lt eq to_unsigned
unsigned_mono w nan y h = absurd h
unsigned_mono w (inf true) y h = zero-le
unsigned_mono w (inf false) nan h = absurd h
unsigned_mono w (inf false) (inf true) h = absurd h
unsigned_mono w (inf false) (inf false) h = le_refl (2 ^ w - 1)
unsigned_mono w (inf false) (fin t n d) h = absurd h
unsigned_mono w (fin true m e) y h = zero-le
unsigned_mono w (fin false m e) nan h = absurd h
unsigned_mono w (fin false m e) (inf true) h = absurd h
unsigned_mono w (fin false m e) (inf false) h = capped (m * up e / down e) (2 ^ w - 1)
  where
    capped : (a c : ℕ) → min a c ≤ c
    capped a c = omega arith
unsigned_mono w (fin false m e) (fin true n d) h =
    none (m * up e / down e) (2 ^ w - 1)
    (le_trans (div_mono (m * up e) (down e) 0 (down d) (down_pos e) (down_pos d) (le_trans (left_zero (m * up e * down d) (n * up d * down e) (at_most false true (m * up e * down d) (n * up d * down e) h)) zero-le)) (le_of_eq (zero-div (down d))))
  where
    none : (a c : ℕ) → a ≤ 0 → min a c ≤ 0
    none a c h = omega arith
unsigned_mono w (fin false m e) (fin false n d) h =
    kept (m * up e / down e) (n * up d / down d) (2 ^ w - 1) (div_mono (m * up e) (down e) (n * up d) (down d) (down_pos e) (down_pos d) (at_most false false (m * up e * down d) (n * up d * down e) h))
  where
    kept : (a b c : ℕ) → a ≤ b → min a c ≤ min b c
    kept a b c h = omega arith
