-- The remainder of a float by 360, as whole numbers give it: 360 is 11,796,480 steps of 2 ^ -15. Assumes nothing.
use mathlib.Core.Path.{◌≡◌, refl, sym, ap, ◌∙◌, subst}
use mathlib.Core.Bool.{Bool, true, false, not}
use Prim.Native.Nat.{ℕ, ◌+◌, ◌-◌, ◌*◌, ◌/◌, ◌%◌, ◌^◌, ◌<◌, ◌≤◌}
use native.Mathlib.Nat.{mul-le-mul, mul-le-mul_right, le_of_lt, lt_trans, lt_of_le_of_lt, le_of_eq, mul-one, add-mul, mul-lt-mul_of_pos_right, mul-add-mod_self_right, mul_assoc, mul-pos, mod-eq_of_lt, mod-lt, eq_of_mul-eq-mul_right, lt_of_mul-lt-mul_right}
use native.Mathlib.Omega.{arith}
use borrow.Author.Rules.{rules}
use lib.Dec.{T, ltb, ltb→lt, nltb→le, lit<}
use lib.IntN.{ℤ, pos}
use lib.Pow.{pow-add, pow_pos, pow_mono}
use lib.Ieee.{Float, nan, inf, fin, binary32, up, down, round, rem, div, add, sub, lt, neg, of_bits, of_int, fits, to_bits}
use lib.Ieee.Exact.{HasValue, round_exact}
use lib.Ieee.Fits.{rem-fits, div-fits}
use lib.Ieee.Bits.{of_bits-to_bits}
use Rattle.mathf.specs.F32.{◌%ᶠ◌, f0, f360}
use Rattle.mathf.proofs.Bounds.{of_int_lem}
use Rattle.mathf.proofs.Saturating.{passed, failed}
use Rattle.mathf.proofs.Patterns.{value_unique, sig_of, field_of, low_pattern, high_pattern, sig_high, finite_bits}
use Rattle.mathf.proofs.Compared.{not_negative, no_size}
use Rattle.mathf.proofs.Floors.{neg_round}
use Rattle.mathf.proofs.Nearest.{Stepped, stepped}

-- (a mod n) of d units are (a of d units) mod (n of d units)
scaled_mod : (a n d : ℕ) → 0 < n → 0 < d → a * d % (n * d) ≡ a % n * d
scaled_mod a n d p q =
    let whole : a ≡ a / n * n + a % n = omega arith in
    let small : a % n < n = mod-lt a p in
    let less : a % n * d < n * d = mul-lt-mul_of_pos_right small q in
    ap (λ (x : ℕ). x * d % (n * d)) whole
    ∙ ap (λ (x : ℕ). x % (n * d)) (add-mul (a / n * n) (a % n) d ∙ ap (λ (x : ℕ). x + a % n * d) (mul_assoc (a / n) n d))
    ∙ mul-add-mod_self_right (a / n) (n * d) (a % n * d)
    ∙ mod-eq_of_lt less

-- 360 is 45 * 2 ^ 3
rem_turn : (s : Bool) (m : ℕ) (e : ℤ) → rem binary32 (fin s m e) f360 ≡ round binary32 s (m * up e * 1 % (360 * down e)) (down e * 1)
unfolding rem of_bits
rem_turn s m e = refl

down_pos : (e : ℤ) → 0 < down e
down_pos e = search (rules, pow_pos)

cross : (a d D r A : ℕ) → 0 < d → a * d ≡ A * D → A * 32768 ≡ r * d → a * 32768 ≡ r * D
cross a d D r A p h k =
    let h' : a * d * 32768 ≡ A * D * 32768 = ap (λ (x : ℕ). x * 32768) h in
    let k' : A * 32768 * D ≡ r * d * D = ap (λ (x : ℕ). x * D) k in
    eq_of_mul-eq-mul_right d p (a * 32768) (r * D) (omega (arith, h', k'))

-- what is A / d in size, and r / 2 ^ 15
value_of_steps : (x : Float) (s : Bool) (A d r : ℕ) → 0 < d → A * 32768 ≡ r * d → HasValue x s A d → HasValue x s r 32768
value_of_steps nan s A d r p k v = v
value_of_steps (inf t) s A d r p k v = v
value_of_steps (fin t m e) s A d r p k v = (v.0, cross (m * up e) d (down e) r A p v.1 k)

-- the value of the remainder, where the remainder in steps is known
turn_value : (s : Bool) (m : ℕ) (e : ℤ) (r : ℕ) → r < 11796480 → m * up e % (360 * down e) * 32768 ≡ r * down e
    → HasValue (rem binary32 (fin s m e) f360) s r 32768
turn_value s m e r small is =
    let A = m * up e % (360 * down e) in
    value_of_steps (rem binary32 (fin s m e) f360) s A (down e) r (down_pos e) is
    (rw (rem_turn s m e, mul-one (m * up e), mul-one (down e))
    (round_exact binary32 s A (down e) r 134 (down_pos e) (omega (arith, small)) (omega (arith, small)) (let k' : A * 32768 * 2 ^ 134 ≡ r * down e * 2 ^ 134 = ap (λ (x : ℕ). x * 2 ^ 134) is in omega (arith, k'))))

-- ---- an angle of a turn or more
-- x is sig * 2 ^ (134 + k) of 2 ^ -149
far_value : (x : Float) (sig k : ℕ) → HasValue x false (sig * 2 ^ (134 + k)) (2 ^ 149) → HasValue (x %ᶠ f360) false (sig * 2 ^ k % 11796480) 32768
far_value nan sig k v = absurd v
far_value (inf t) sig k v = absurd v
far_value (fin t m e) sig k v =
    let p : m * up e * 2 ^ 149 ≡ sig * (2 ^ 134 * 2 ^ k) * down e = v.1 ∙ ap (λ (x : ℕ). sig * x * down e) (pow-add 2 134 k) in
    let same : m * up e * 32768 ≡ sig * 2 ^ k * down e = eq_of_mul-eq-mul_right (2 ^ 134) (lit< tt) (m * up e * 32768) (sig * 2 ^ k * down e) (omega (arith, p)) in
    let whole : 360 * down e * 32768 ≡ 11796480 * down e = omega arith in
    let left : m * up e % (360 * down e) * 32768 ≡ sig * 2 ^ k % 11796480 * down e =
    sym (scaled_mod (m * up e) (360 * down e) 32768 (mul-pos (lit< tt) (down_pos e)) (lit< tt))
    ∙ ap (λ (x : ℕ). x % (360 * down e * 32768)) same
    ∙ ap (λ (x : ℕ). sig * 2 ^ k * down e % x) whole
    ∙ scaled_mod (sig * 2 ^ k) 11796480 (down e) (lit< tt) (down_pos e) in
    subst (λ (s : Bool). HasValue (rem binary32 (fin t m e) f360) s (sig * 2 ^ k % 11796480) 32768) v.0
    (turn_value t m e (sig * 2 ^ k % 11796480) (mod-lt (sig * 2 ^ k) (lit< tt)) left)

-- r steps of 2 ^ -15, as the code works them out
steps_value : (x : Float) (r : ℕ) → r < 11796480 → HasValue x false r 1 → HasValue (div binary32 x (of_bits binary32 1191182336)) false r 32768
unfolding div of_bits
steps_value nan r small v = absurd v
steps_value (inf t) r small v = absurd v
steps_value (fin true m e) r small v = absurd (cc (v.0))
steps_value (fin false m e) r small v =
    value_of_steps (round binary32 false (m * up e * 1) (1 * 32768 * down e)) false (m * up e * 1) (1 * 32768 * down e) r (mul-pos (lit< tt) (down_pos e))
    (omega (arith, v.1))
    (round_exact binary32 false (m * up e * 1) (1 * 32768 * down e) r 134 (mul-pos (lit< tt) (down_pos e)) (omega (arith, small)) (omega (arith, small)) (omega (arith, v.1)))

pub far : (x : Float) (sig k : ℕ) → T (fits binary32 x) → HasValue x false (sig * 2 ^ (134 + k)) (2 ^ 149)
    → (r : ℕ) → r ≡ sig * 2 ^ k % 11796480 → div binary32 (of_int binary32 (pos r)) (of_bits binary32 1191182336) ≡ x %ᶠ f360
far x sig k f v r is =
    let small : r < 11796480 = rw is (mod-lt (sig * 2 ^ k) (lit< tt)) in
    value_unique binary32 (div binary32 (of_int binary32 (pos r)) (of_bits binary32 1191182336)) (x %ᶠ f360) false r 32768 (lit< tt)
    (div-fits binary32 (of_int binary32 (pos r)) (of_bits binary32 1191182336)) (rem-fits binary32 x f360 f)
    (steps_value (of_int binary32 (pos r)) r small (of_int_lem r (omega (arith, small))))
    (rw is (far_value x sig k v))

-- ---- an angle below a turn
below : (s : Bool) (m : ℕ) (e : ℤ) → T (fits binary32 (fin s m e)) → m * up e < 360 * down e → fin s m e ≡ fin s m e %ᶠ f360
below s m e f h =
    let p : Stepped (fin s m e) = stepped (fin s m e) f tt in
    let step : 0 < 2 ^ 149 = lit< tt in
    let more : m * up e * 2 ^ 149 < 360 * down e * 2 ^ 149 = mul-lt-mul_of_pos_right h step in
    let few : p.sig * 2 ^ p.exp < 360 * 2 ^ 149 =
    lt_of_mul-lt-mul_right (down e) (lt_of_le_of_lt (le_of_eq (sym p.value)) (omega (arith, more))) in
    value_unique binary32 (fin s m e) (fin s m e %ᶠ f360) s (m * up e) (down e) (down_pos e) f (rem-fits binary32 (fin s m e) f360 f) (refl, refl)
    (rw (rem_turn s m e, mul-one (m * up e), mul-one (down e), mod-eq_of_lt h)
    (round_exact binary32 s (m * up e) (down e) p.sig p.exp (down_pos e) p.few (lt_trans few (lit< tt)) p.value))

pub near : (x : Float) → T (fits binary32 x) → lt x f0 ≡ false → lt x f360 ≡ true → x ≡ x %ᶠ f360
unfolding lt of_bits
near nan f a b = cc
near (inf true) f a b = cc
near (inf false) f a b = cc
near (fin true m e) f a b =
    let none : m ≡ 0 = no_size m e (failed a) in
    let p : 0 < down e = down_pos e in
    below true m e f (rw none (omega (arith, p)))
near (fin false m e) f a b =
    let p : m * up e * 1 < 360 * down e = ltb→lt (m * up e * 1) (360 * down e) (passed b) in
    below false m e f (omega (arith, p))

-- ---- the pattern of an angle of a turn or more
pub record Far (x : Float) : Type 0 where
  pub field : 135 ≤ to_bits binary32 x / 8388608
  pub value : HasValue x false (sig_of (to_bits binary32 x) * 2 ^ (134 + (to_bits binary32 x / 8388608 - 135))) (2 ^ 149)

-- D / D is a turn at least of 2 ^ -149, so a pattern below it says too little
not_low : (b D v : ℕ) → 0 < D → 360 * D * 2 ^ 149 ≤ v → v ≡ b * 2 ^ 0 * D → b < 2 ^ 23 → ⊥
not_low b D v p h is low =
    let le : b * D ≤ 2 ^ 23 * D = mul-le-mul_right D (le_of_lt low) in
    omega arith

not_short : (sig sh D v : ℕ) → 0 < D → 360 * D * 2 ^ 149 ≤ v → v ≡ sig * 2 ^ sh * D → sig < 2 ^ 24 → sh ≤ 133 → ⊥
not_short sig sh D v p h is few short =
    let pow : 2 ^ sh ≤ 2 ^ 133 = pow_mono short in
    let le : sig * 2 ^ sh ≤ 2 ^ 24 * 2 ^ 133 = mul-le-mul (le_of_lt few) pow in
    let led : sig * 2 ^ sh * D ≤ 2 ^ 24 * 2 ^ 133 * D = mul-le-mul_right D le in
    omega arith

past_turn : (m : ℕ) (e : ℤ) → T (fits binary32 (fin false m e)) → 360 * down e ≤ m * up e → Far (fin false m e)
past_turn m e f h =
    let x : Float = fin false m e in
    let b : ℕ = to_bits binary32 x in
    let back : of_bits binary32 b ≡ x = of_bits-to_bits binary32 x f in
    let le : 360 * down e * 2 ^ 149 ≤ m * up e * 2 ^ 149 = mul-le-mul_right (2 ^ 149) h in
    let high : 2 ^ 23 ≤ b = whole b (λ low. not_low b (down e) (m * up e * 2 ^ 149) (down_pos e) le (subst (λ (y : Float). HasValue y false (b * 2 ^ 0) (2 ^ 149)) back (low_pattern b low)).1 low) in
    let v : HasValue x false (sig_of b * 2 ^ (field_of b - 1)) (2 ^ 149) = subst (λ (y : Float). HasValue y false (sig_of b * 2 ^ (field_of b - 1)) (2 ^ 149)) back (high_pattern b high (finite_bits m e f)) in
    let long : 134 ≤ field_of b - 1 = longer (field_of b - 1) (λ short. not_short (sig_of b) (field_of b - 1) (down e) (m * up e * 2 ^ 149) (down_pos e) le v.1 (sig_high b) short) in
    record { field = omega (arith, long); value = subst (λ (k : ℕ). HasValue x false (sig_of b * 2 ^ k) (2 ^ 149)) (omega (arith, long)) v }
  where
    whole : (b : ℕ) → (b < 2 ^ 23 → ⊥) → 2 ^ 23 ≤ b
    whole b g = go (ltb b (2 ^ 23)) (ltb→lt b (2 ^ 23)) (nltb→le b (2 ^ 23))
      where
        go : (t : Bool) → (T t → b < 2 ^ 23) → (T (not t) → 2 ^ 23 ≤ b) → 2 ^ 23 ≤ b
        go true p q = absurd (g (p tt))
        go false p q = q tt

    longer : (k : ℕ) → (k ≤ 133 → ⊥) → 134 ≤ k
    longer k g = go (ltb k 134) (ltb→lt k 134) (nltb→le k 134)
      where
        go : (t : Bool) → (T t → k < 134) → (T (not t) → 134 ≤ k) → 134 ≤ k
        go true p q = absurd (g (omega (arith, p tt)))
        go false p q = q tt

pub past : (x : Float) → T (fits binary32 x) → lt x f0 ≡ false → lt x f360 ≡ false → lt x (of_bits binary32 2139095040) ≡ true → Far x
unfolding lt of_bits
past nan f a b i = cc
past (inf true) f a b i = cc
past (inf false) f a b i = cc
past (fin true m e) f a b i =
    let p : 0 < down e = down_pos e in
    absurd (omega (arith, nltb→le 0 (m * up e * 1 + 360 * down e) (failed b)))
past (fin false m e) f a b i =
    let p : 360 * down e ≤ m * up e * 1 = nltb→le (m * up e * 1) (360 * down e) (failed b) in
    past_turn m e f (omega (arith, p))

-- ---- no angle
pub lost : (x : Float) → lt x f0 ≡ false → lt x (of_bits binary32 2139095040) ≡ false → sub binary32 x x ≡ x %ᶠ f360
unfolding lt of_bits sub add neg rem
lost nan a i = refl
lost (inf true) a i = cc
lost (inf false) a i = refl
lost (fin s m e) a i = cc

-- ---- an angle below 0
pub upright : (x : Float) → lt x f0 ≡ true → lt (neg x) f0 ≡ false
unfolding lt of_bits neg
upright nan a = cc
upright (inf true) a = refl
upright (inf false) a = cc
upright (fin false m e) a = absurd (not_negative m e (passed a))
upright (fin true m e) a = go (lt (fin false m e) (fin false 0 (pos 0))) refl
  where
    go : (t : Bool) → lt (fin false m e) (fin false 0 (pos 0)) ≡ t → t ≡ false
    go false p = refl
    go true p = absurd (not_negative m e (passed p))

pub turned_over : (x : Float) → neg (neg x %ᶠ f360) ≡ x %ᶠ f360
unfolding neg rem
turned_over nan = refl
turned_over (inf s) = refl
turned_over (fin true m e) = ap neg (rem_turn false m e) ∙ neg_round binary32 false (m * up e * 1 % (360 * down e)) (down e * 1) ∙ sym (rem_turn true m e)
turned_over (fin false m e) = ap neg (rem_turn true m e) ∙ neg_round binary32 true (m * up e * 1 % (360 * down e)) (down e * 1) ∙ sym (rem_turn false m e)
