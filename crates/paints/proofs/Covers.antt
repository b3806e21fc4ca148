-- The coverage at an edge, by the squared distance: the root, the difference and the coverage keep the order, so one tested number speaks for all beyond it.
--     none_from, full_upto      from half a pixel outside on the coverage is 0, up to half a pixel inside 255
--     half_outside, half_inside    the same, as the code tests a distance
--     sum_above, sum_below      what a sum with one number keeps of the order
--     cover_none, cover_full    the coverage by the squared distance
--     squares                   a sum of two squares is not below 0, or a NaN
--     outside_at, inside_at     what a test of one number gives
--     edge_cover_lem, edge_beside   the coverage by the edge of a radius is that with the root
-- Assumes nothing.
use mathlib.Core.Path.{◌≡◌, refl, sym, ap, subst, ◌∙◌}
use mathlib.Core.Logic.{◌⊎◌, inl, inr}
use mathlib.Core.Bool.{Bool, true, false, not, cond, ◌&&◌}
use Prim.Native.Nat.{ℕ, zero, suc, ◌+◌, ◌*◌, ◌<◌, ◌≤◌}
use native.Mathlib.Nat.{le_antisymm, mul-pos, zero-mul, zero-lt-suc}
use native.Mathlib.Omega.{arith}
use lib.Dec.{T, nltb→le}
use lib.IntN.{ℤ, pos, negsuc}
use lib.Ieee.{Float, nan, inf, fin, binary32, of_bits, up, down, below, round, add, sub, mul, div, neg, lt, eq, le, is_nan, fits, to_unsigned}
use lib.Pow.{pow_pos}
use lib.Ieee.Bits.{is_true}
use lib.Ieee.Fits.{down_pos, add-fits, mul-fits}
use lib.Ieee.Scale.{finite}
use Rattle.mathf.specs.F32.{◌+ᶠ◌, ◌-ᶠ◌, ◌*ᶠ◌, ◌/ᶠ◌, ◌<ᶠ◌, ◌≤ᶠ◌, f0, f½}
use Rattle.mathf.specs.Order.{max_of, clamp_of}
use Rattle.mathf.specs.Convert.{to_u32}
use Rattle.mathf.specs.Root.{sqrt_of}
use Rattle.mathf.proofs.Compared.{AtMost, from_at_most, le_same, le_through, or_l, above_zero}
use Rattle.mathf.proofs.Monotone.{round_order, add_mono, sub_mono, mul_mono, sqrt_mono, unsigned_mono}
use Rattle.mathf.proofs.Saturating.{passed}
use Rattle.geom.proofs.Bools.{split}
use Rattle.paints.specs.declared.edges.Edge.{Edge}
use Rattle.paints.specs.Paints.{cov8_of, corner_sd}
use Rattle.paints.specs.Edges.{f0·51, far_of, near_of, edge_of, edge_cover, beside_of}

abbrev z0 : Float
z0 = fin false 0 (pos 0)

abbrev z½ : Float
z½ = fin false 1 (negsuc 0)

abbrev -z½ : Float
-z½ = fin true 1 (negsuc 0)

abbrev z1 : Float
z1 = fin false 1 (pos 0)

abbrev z255 : Float
z255 = fin false 255 (pos 0)

-- ---- the order once more: what is not below is at most, and what lies between finite numbers is finite
turned : (s t : Bool) (a b : ℕ) → T (not (below s a t b)) → AtMost t b s a
turned false false a b n = nltb→le a b n
turned false true a b n = tt
turned true false a b n = swap (nltb→le 0 (a + b) n)
  where
    swap : a + b ≤ 0 → b + a ≤ 0
    swap k = omega arith
turned true true a b n = nltb→le b a n

fin_back : (s t : Bool) (m n : ℕ) (e d : ℤ) → T (not (lt (fin s m e) (fin t n d))) → T (le (fin t n d) (fin s m e))
unfolding le lt eq
fin_back s t m n e d k =
    let a = m * up e * down d in
    let b = n * up d * down e in
    from_at_most t s b a (turned s t a b k)

pub le_back : (x y : Float) → T (le x y) → T (not (lt x y)) → T (le y x)
unfolding le lt eq
le_back nan y h n = absurd h
le_back (inf s) nan h n = absurd h
le_back (inf true) (inf true) h n = tt
le_back (inf true) (inf false) h n = absurd n
le_back (inf false) (inf true) h n = absurd h
le_back (inf false) (inf false) h n = tt
le_back (inf true) (fin t m e) h n = absurd n
le_back (inf false) (fin t m e) h n = absurd h
le_back (fin s m e) nan h n = absurd h
le_back (fin s m e) (inf true) h n = absurd h
le_back (fin s m e) (inf false) h n = absurd n
le_back (fin s m e) (fin t n d) h k = fin_back s t m n e d k

pub finite_between : (a x b : Float) → T (finite a) → T (finite b) → T (le a x) → T (le x b) → T (finite x)
unfolding le lt eq
finite_between nan x b p q h k = absurd p
finite_between (inf s) x b p q h k = absurd p
finite_between (fin s m e) nan b p q h k = absurd h
finite_between (fin s m e) (inf true) b p q h k = absurd h
finite_between (fin s m e) (inf false) nan p q h k = absurd q
finite_between (fin s m e) (inf false) (inf t) p q h k = absurd q
finite_between (fin s m e) (inf false) (fin t n d) p q h k = absurd k
finite_between (fin s m e) (fin t n d) b p q h k = tt

-- ---- a share that equals a gives the coverage of a
pub level_of_lem : (a c : Float) → T (finite a) → T (finite (a *ᶠ z255)) → T (le z0 a) → T (le a c) → T (le c a) → to_u32 (c *ᶠ z255 +ᶠ z½) ≡ to_u32 (a *ᶠ z255 +ᶠ z½)
level_of_lem a c p q z h k =
    let fc = finite_between a c a p p h k in
    let same = le_same z255 tt in
    let wide : T (le z0 z255) = unfold le lt eq in tt in
    let more = mul_mono binary32 a c z255 z255 p fc tt tt z wide h same in
    let less = mul_mono binary32 c a z255 z255 fc p tt tt (le_through z0 a c z h) wide k same in
    let fm = finite_between (a *ᶠ z255) (c *ᶠ z255) (a *ᶠ z255) q q more less in
    let half = le_same z½ tt in
    le_antisymm
    (unsigned_mono 32 _ _ (add_mono binary32 (c *ᶠ z255) (a *ᶠ z255) z½ z½ fm q tt tt less half))
    (unsigned_mono 32 _ _ (add_mono binary32 (a *ᶠ z255) (c *ᶠ z255) z½ z½ q fm tt tt more half))

-- ---- from half a pixel outside on: the share is 0
no_rest : sub binary32 z½ z½ ≡ z0
unfolding sub add neg round
no_rest = refl

pub rest_low : (d : Float) → T (le z½ d) → T (le (sub binary32 z½ d) z0)
unfolding le lt eq
rest_low nan h = absurd h
rest_low (inf true) h = absurd h
rest_low (inf false) h = unfold sub add neg in tt
rest_low (fin s m e) h = subst (λ (x : Float). T (le (sub binary32 z½ (fin s m e)) x)) no_rest (sub_mono binary32 z½ z½ (fin s m e) z½ tt tt tt tt (le_same z½ tt) h)

one_high : T (le z1 z0) → ⊥
unfolding le lt eq
one_high t = t

le_of_lt : (x y : Float) → T (lt x y) → T (le x y)
unfolding le
le_of_lt x y t = or_l (lt x y) (eq x y) t

zero_one : T (le z0 z1)
unfolding le lt eq
zero_one = tt

-- the share of what is not above 0 is 0, and of what is not below 1 it is 1
pub share_low : (v : Float) → T (le v z0) → T (le z0 (clamp_of v z0 z1)) × T (le (clamp_of v z0 z1) z0)
share_low v h = go (lt v z0) (lt z1 v) (λ t. t) (λ t. t)
  where
    go : (a b : Bool) → (T (not a) → T (not (lt v z0))) → (T b → T (lt z1 v)) → T (le z0 (cond a z0 (cond b z1 v))) × T (le (cond a z0 (cond b z1 v)) z0)
    go true b f g = (le_same z0 tt, le_same z0 tt)
    go false true f g = absurd (one_high (le_through z1 v z0 (le_of_lt z1 v (g tt)) h))
    go false false f g = (le_back v z0 h (f tt), h)

pub share_high : (v : Float) → T (le z1 v) → T (le z1 (clamp_of v z0 z1)) × T (le (clamp_of v z0 z1) z1)
share_high v h = go (lt v z0) (lt z1 v) (λ t. t) (λ t. t)
  where
    go : (a b : Bool) → (T a → T (lt v z0)) → (T (not b) → T (not (lt z1 v))) → T (le z1 (cond a z0 (cond b z1 v))) × T (le (cond a z0 (cond b z1 v)) z1)
    go true b f g = absurd (one_high (le_through z1 v z0 h (le_of_lt v z0 (f tt))))
    go false true f g = (le_same z1 tt, le_same z1 tt)
    go false false f g = (h, le_back z1 v h (g tt))

-- any share lies from 0 to 1, or is a NaN
share_in : (v : Float) → T (not (lt v z0)) → T (not (lt z1 v)) → (v ≡ nan) ⊎ (T (le z0 v) × T (le v z1))
share_in nan h k = inl refl
share_in (inf true) h k = absurd (unfold lt in h)
share_in (inf false) h k = absurd (unfold lt in k)
share_in (fin s m e) h k = inr (fin_back s false m 0 e (pos 0) h, fin_back false s 1 m (pos 0) e k)

pub share_range : (v : Float) → (clamp_of v z0 z1 ≡ nan) ⊎ (T (le z0 (clamp_of v z0 z1)) × T (le (clamp_of v z0 z1) z1))
share_range v = go (lt v z0) (lt z1 v) (λ t. t) (λ t. t)
  where
    go : (a b : Bool) → (T (not a) → T (not (lt v z0))) → (T (not b) → T (not (lt z1 v))) → (cond a z0 (cond b z1 v) ≡ nan) ⊎ (T (le z0 (cond a z0 (cond b z1 v))) × T (le (cond a z0 (cond b z1 v)) z1))
    go true b f g = inr (le_same z0 tt, zero_one)
    go false true f g = inr (zero_one, le_same z1 tt)
    go false false f g = share_in v (f tt) (g tt)

pub none_level : to_u32 (z0 *ᶠ z255 +ᶠ z½) ≡ 0
unfolding mul add round to_unsigned
none_level = refl

full_level : to_u32 (z1 *ᶠ z255 +ᶠ z½) ≡ 255
unfolding mul add round to_unsigned
full_level = refl

pub none_finite : T (finite (z0 *ᶠ z255))
unfolding mul round
none_finite = tt

full_finite : T (finite (z1 *ᶠ z255))
unfolding mul round
full_finite = tt

pub none_from : (d : Float) → T (le z½ d) → cov8_of d ≡ 0
unfolding cov8_of of_bits
none_from d h = let s = share_low (sub binary32 z½ d) (rest_low d h) in level_of_lem z0 (clamp_of (sub binary32 z½ d) z0 z1) tt none_finite (le_same z0 tt) s.0 s.1 ∙ none_level

-- ---- up to half a pixel inside: the share is 1
whole_rest : sub binary32 z½ -z½ ≡ z1
unfolding sub add neg round
whole_rest = refl

pub rest_high : (d : Float) → T (le d -z½) → T (le z1 (sub binary32 z½ d))
unfolding le lt eq
rest_high nan h = absurd h
rest_high (inf true) h = unfold sub add neg in tt
rest_high (inf false) h = absurd h
rest_high (fin s m e) h = subst (λ (x : Float). T (le x (sub binary32 z½ (fin s m e)))) whole_rest (sub_mono binary32 z½ z½ -z½ (fin s m e) tt tt tt tt (le_same z½ tt) h)

pub full_upto : (d : Float) → T (le d -z½) → cov8_of d ≡ 255
unfolding cov8_of of_bits
full_upto d h = let s = share_high (sub binary32 z½ d) (rest_high d h) in level_of_lem z1 (clamp_of (sub binary32 z½ d) z0 z1) tt full_finite (unfold le lt eq in tt) s.0 s.1 ∙ full_level

-- as the code tests a distance
pub half_outside : (d : Float) → (f½ ≤ᶠ d) ≡ true → 0 ≡ cov8_of d
unfolding of_bits
half_outside d h = sym (none_from d (passed h))

pub half_inside : (d : Float) → (d ≤ᶠ neg f½) ≡ true → 255 ≡ cov8_of d
unfolding of_bits neg
half_inside d h = sym (full_upto d (passed h))

-- ---- a sum with one number keeps the order, infinities and all: what lies beyond a finite number stays beyond it
pub sum_above : (u : Bool) (p : ℕ) (q : ℤ) (x y w : Float) → T (le x y) → T (le (fin u p q) (add binary32 x w)) → T (le (fin u p q) (add binary32 y w))
unfolding le lt eq add
sum_above u p q nan y w h k = absurd h
sum_above u p q (inf true) y nan h k = absurd k
sum_above u p q (inf true) y (inf true) h k = absurd k
sum_above u p q (inf true) y (inf false) h k = absurd k
sum_above u p q (inf true) y (fin t n d) h k = absurd k
sum_above u p q (inf false) nan w h k = absurd h
sum_above u p q (inf false) (inf true) w h k = absurd h
sum_above u p q (inf false) (inf false) w h k = k
sum_above u p q (inf false) (fin t n d) w h k = absurd h
sum_above u p q (fin s m e) nan w h k = absurd h
sum_above u p q (fin s m e) (inf true) w h k = absurd h
sum_above u p q (fin s m e) (inf false) nan h k = absurd k
sum_above u p q (fin s m e) (inf false) (inf true) h k = absurd k
sum_above u p q (fin s m e) (inf false) (inf false) h k = tt
sum_above u p q (fin s m e) (inf false) (fin t n d) h k = tt
sum_above u p q (fin s m e) (fin s' m' e') nan h k = absurd k
sum_above u p q (fin s m e) (fin s' m' e') (inf true) h k = absurd k
sum_above u p q (fin s m e) (fin s' m' e') (inf false) h k = tt
sum_above u p q (fin s m e) (fin s' m' e') (fin t n d) h k =
    let w = fin t n d in
    le_through (fin u p q) (add binary32 (fin s m e) w) (add binary32 (fin s' m' e') w) k (add_mono binary32 (fin s m e) (fin s' m' e') w w tt tt tt tt h (le_same w tt))

pub sum_below : (u : Bool) (p : ℕ) (q : ℤ) (x y w : Float) → T (le x y) → T (le (add binary32 y w) (fin u p q)) → T (le (add binary32 x w) (fin u p q))
unfolding le lt eq add
sum_below u p q nan y w h k = absurd h
sum_below u p q (inf true) nan w h k = absurd h
sum_below u p q (inf true) (inf true) w h k = k
sum_below u p q (inf true) (inf false) nan h k = absurd k
sum_below u p q (inf true) (inf false) (inf true) h k = absurd k
sum_below u p q (inf true) (inf false) (inf false) h k = absurd k
sum_below u p q (inf true) (inf false) (fin t n d) h k = absurd k
sum_below u p q (inf true) (fin s' m' e') nan h k = absurd k
sum_below u p q (inf true) (fin s' m' e') (inf true) h k = tt
sum_below u p q (inf true) (fin s' m' e') (inf false) h k = absurd k
sum_below u p q (inf true) (fin s' m' e') (fin t n d) h k = tt
sum_below u p q (inf false) nan w h k = absurd h
sum_below u p q (inf false) (inf true) w h k = absurd h
sum_below u p q (inf false) (inf false) w h k = k
sum_below u p q (inf false) (fin t n d) w h k = absurd h
sum_below u p q (fin s m e) nan w h k = absurd h
sum_below u p q (fin s m e) (inf true) w h k = absurd h
sum_below u p q (fin s m e) (inf false) nan h k = absurd k
sum_below u p q (fin s m e) (inf false) (inf true) h k = absurd k
sum_below u p q (fin s m e) (inf false) (inf false) h k = absurd k
sum_below u p q (fin s m e) (inf false) (fin t n d) h k = absurd k
sum_below u p q (fin s m e) (fin s' m' e') nan h k = absurd k
sum_below u p q (fin s m e) (fin s' m' e') (inf true) h k = tt
sum_below u p q (fin s m e) (fin s' m' e') (inf false) h k = absurd k
sum_below u p q (fin s m e) (fin s' m' e') (fin t n d) h k =
    let w = fin t n d in
    le_through (add binary32 (fin s m e) w) (add binary32 (fin s' m' e') w) (fin u p q) (add_mono binary32 (fin s m e) (fin s' m' e') w w tt tt tt tt h (le_same w tt)) k

pub sub_above : (x y r : Float) → T (le x y) → T (le z½ (sub binary32 x r)) → T (le z½ (sub binary32 y r))
unfolding sub
sub_above x y r h k = sum_above false 1 (negsuc 0) x y (neg r) h k

pub sub_below : (x y r : Float) → T (le x y) → T (le (sub binary32 y r) -z½) → T (le (sub binary32 x r) -z½)
unfolding sub
sub_below x y r h k = sum_below true 1 (negsuc 0) x y (neg r) h k

-- ---- a number whose root, less r, compares is not below 0
pub real : (k r : Float) → T (le z½ (sub binary32 (sqrt_of k) r)) → T (le z0 k)
unfolding sqrt_of le lt eq sub add neg
real nan r h = absurd h
real (inf true) r h = absurd h
real (inf false) r h = tt
real (fin s zero e) r h = from_at_most false s _ _ (zeros s)
  where
    zeros : (s : Bool) → AtMost false (0 * 1 * down e) s (zero * up e * 1)
    zeros true = omega (arith, zero-mul (up e))
    zeros false = omega arith
real (fin false (suc m) e) r h = le_of_lt z0 (fin false (suc m) e) (above_zero (suc m) e (zero-lt-suc m))
real (fin true (suc m) e) r h = absurd h

pub cover_none : (k d r : Float) → T (fits binary32 k) → T (fits binary32 d) → T (le z½ (sub binary32 (sqrt_of k) r)) → T (le k d) → cov8_of (sub binary32 (sqrt_of d) r) ≡ 0
cover_none k d r f g t h = none_from (sub binary32 (sqrt_of d) r) (sub_above (sqrt_of k) (sqrt_of d) r (sqrt_mono k d f g (real k r t) h) t)

pub cover_full : (k d r : Float) → T (fits binary32 k) → T (fits binary32 d) → T (le (sub binary32 (sqrt_of k) r) -z½) → T (le z0 d) → T (le d k) → cov8_of (sub binary32 (sqrt_of d) r) ≡ 255
cover_full k d r f g t z h = full_upto (sub binary32 (sqrt_of d) r) (sub_below (sqrt_of d) (sqrt_of k) r (sqrt_mono d k g f z h) t)

-- ---- a square is not below 0, nor is a sum of two, unless it is a NaN
not_minus : (a c : ℕ) → 0 < c → T (le z0 (round binary32 false a c))
not_minus a c C = le_through z0 (round binary32 true 0 1) (round binary32 false a c) minus (round_order binary32 true false 0 1 a c (pow_pos 0) C tt)
  where
    minus : T (le z0 (round binary32 true 0 1))
    minus = unfold le lt eq round in tt

square : (x : Float) → T (not (is_nan x)) → T (le z0 (mul binary32 x x))
unfolding le lt eq mul is_nan
square nan h = absurd h
square (inf true) h = tt
square (inf false) h = tt
square (fin true m e) h = not_minus _ _ (mul-pos (down_pos e) (down_pos e))
square (fin false m e) h = not_minus _ _ (mul-pos (down_pos e) (down_pos e))

no_sum : add binary32 z0 z0 ≡ z0
unfolding add round
no_sum = refl

sum_plus : (a b : Float) → T (le z0 a) → T (le z0 b) → T (le z0 (add binary32 a b))
unfolding le lt eq add
sum_plus nan b h k = absurd h
sum_plus (inf true) b h k = absurd h
sum_plus (inf false) nan h k = absurd k
sum_plus (inf false) (inf true) h k = absurd k
sum_plus (inf false) (inf false) h k = tt
sum_plus (inf false) (fin t n d) h k = tt
sum_plus (fin s m e) nan h k = absurd k
sum_plus (fin s m e) (inf true) h k = absurd k
sum_plus (fin s m e) (inf false) h k = tt
sum_plus (fin s m e) (fin t n d) h k =
    subst (λ (z : Float). T (le z (add binary32 (fin s m e) (fin t n d)))) no_sum (add_mono binary32 z0 (fin s m e) z0 (fin t n d) tt tt tt tt h k)

add_nan : (a : Float) → add binary32 a nan ≡ nan
unfolding add
add_nan nan = refl
add_nan (inf s) = refl
add_nan (fin s m e) = refl

nan_low : (x k : Float) → x ≡ nan → T (le x k) → ⊥
unfolding le lt eq
nan_low x k e h = subst (λ (z : Float). T (le z k)) e h

nan_square : mul binary32 nan nan ≡ nan
unfolding mul
nan_square = refl

nan_second : (x k : Float) → T (le (x *ᶠ x +ᶠ nan *ᶠ nan) k) → ⊥
nan_second x k h = nan_low (x *ᶠ x +ᶠ nan *ᶠ nan) k (ap (λ (z : Float). x *ᶠ x +ᶠ z) nan_square ∙ add_nan (x *ᶠ x)) h

pub squares : (x y k : Float) → T (le (x *ᶠ x +ᶠ y *ᶠ y) k) → T (le z0 (x *ᶠ x +ᶠ y *ᶠ y))
unfolding is_nan
squares nan y k h = absurd (nan_low (nan *ᶠ nan +ᶠ y *ᶠ y) k (unfold mul add in refl) h)
squares (inf s) nan k h = absurd (nan_second (inf s) k h)
squares (fin s m e) nan k h = absurd (nan_second (fin s m e) k h)
squares (inf s) (inf t) k h = sum_plus _ _ (square (inf s) tt) (square (inf t) tt)
squares (inf s) (fin t n d) k h = sum_plus _ _ (square (inf s) tt) (square (fin t n d) tt)
squares (fin s m e) (inf t) k h = sum_plus _ _ (square (fin s m e) tt) (square (inf t) tt)
squares (fin s m e) (fin t n d) k h = sum_plus _ _ (square (fin s m e) tt) (square (fin t n d) tt)

-- ---- from the squared distance k on, an edge at the distance r covers nothing
unfoldable pub Outside : Float → Float → Type 0
Outside r k = (d : Float) → T (fits binary32 d) → (k ≤ᶠ d) ≡ true → cov8_of (sqrt_of d -ᶠ r) ≡ 0

-- up to k it covers all
unfoldable pub Inside : Float → Float → Type 0
Inside r k = (d : Float) → T (fits binary32 d) → (f0 ≤ᶠ d) ≡ true → (d ≤ᶠ k) ≡ true → cov8_of (sqrt_of d -ᶠ r) ≡ 255

-- ---- as the code tests a number; where the test fails it has a NaN, beyond which nothing lies
pub outside_at : (k r : Float) → T (fits binary32 k) → (f½ ≤ᶠ sqrt_of k -ᶠ r) ≡ true → Outside r k
unfolding Outside of_bits
outside_at k r f t = λ d g h. cover_none k d r f g (passed t) (passed h)

pub inside_at : (k r : Float) → T (fits binary32 k) → (sqrt_of k -ᶠ r ≤ᶠ neg f½) ≡ true → Inside r k
unfolding Inside of_bits neg
inside_at k r f t = λ d g z h. cover_full k d r f g (passed t) (passed z) (passed h)

no_number : f0 /ᶠ f0 ≡ nan
unfolding div of_bits
no_number = refl

pub outside_none : (r : Float) → Outside r (f0 /ᶠ f0)
unfolding Outside
outside_none r = λ d g h. absurd (nan_low (f0 /ᶠ f0) d no_number (passed h))

nan_high : (x k : Float) → k ≡ nan → T (le x k) → ⊥
nan_high x k e h = go x (subst (λ (z : Float). T (le x z)) e h)
  where
    go : (x : Float) → T (le x nan) → ⊥
    go nan h = unfold le lt eq in h
    go (inf s) h = unfold le lt eq in h
    go (fin s m e) h = unfold le lt eq in h

pub inside_none : (r : Float) → Inside r (f0 /ᶠ f0)
unfolding Inside
inside_none r = λ d g z h. absurd (nan_high d (f0 /ᶠ f0) no_number (passed h))

-- the two squared distances of an edge are such
far_sure : (r : Float) → Outside r (far_of r)
unfolding far_of
far_sure r =
    let e = r +ᶠ f0·51 in
    split (f½ ≤ᶠ sqrt_of (e *ᶠ e) -ᶠ r) (λ t. Outside r (cond t (e *ᶠ e) (f0 /ᶠ f0))) (λ h. outside_at (e *ᶠ e) r (mul-fits binary32 e e) h) (λ h. outside_none r)

near_sure : (r : Float) → Inside r (near_of r)
unfolding near_of
near_sure r =
    let e = max_of (r -ᶠ f0·51) f0 in
    split (sqrt_of (e *ᶠ e) -ᶠ r ≤ᶠ neg f½) (λ t. Inside r (cond t (e *ᶠ e) (f0 /ᶠ f0))) (λ h. inside_at (e *ᶠ e) r (mul-fits binary32 e e) h) (λ h. inside_none r)

-- ---- the coverage of a point by the sum of the squares of its distances across and down
far_cover : (r x y : Float) → (far_of r ≤ᶠ x *ᶠ x +ᶠ y *ᶠ y) ≡ true → 0 ≡ cov8_of (sqrt_of (x *ᶠ x +ᶠ y *ᶠ y) -ᶠ r)
unfolding Outside
far_cover r x y h = sym (far_sure r (x *ᶠ x +ᶠ y *ᶠ y) (add-fits binary32 _ _) h)

near_cover : (r x y : Float) → (x *ᶠ x +ᶠ y *ᶠ y ≤ᶠ near_of r) ≡ true → 255 ≡ cov8_of (sqrt_of (x *ᶠ x +ᶠ y *ᶠ y) -ᶠ r)
unfolding Inside of_bits
near_cover r x y h =
    let d = x *ᶠ x +ᶠ y *ᶠ y in
    sym (near_sure r d (add-fits binary32 _ _) (is_true (le z0 d) (squares x y (near_of r) (passed h))) h)

own_cover : (r x y : Float) → edge_cover (edge_of r) x y ≡ cov8_of (sqrt_of (x *ᶠ x +ᶠ y *ᶠ y) -ᶠ r)
unfolding edge_cover
own_cover r x y =
    let d = x *ᶠ x +ᶠ y *ᶠ y in
    let v = cov8_of (sqrt_of d -ᶠ r) in
    split (far_of r ≤ᶠ d) (λ t. cond t 0 (cond (d ≤ᶠ near_of r) 255 v) ≡ v) (λ h. far_cover r x y h)
    (λ _. split (d ≤ᶠ near_of r) (λ t. cond t 255 v ≡ v) (λ h. near_cover r x y h) (λ _. refl))

-- of the edge of a radius they are the coverage with the root
module _ (e : Edge) (r : Float) (own : e ≡ edge_of r) where
  pub edge_cover_lem : (x y : Float) → edge_cover e x y ≡ cov8_of (sqrt_of (x *ᶠ x +ᶠ y *ᶠ y) -ᶠ r)
  edge_cover_lem x y = ap (λ (k : Edge). edge_cover k x y) own ∙ own_cover r x y

  pub edge_beside : (x y : Float) (level : ℕ) → level ≡ cov8_of (y -ᶠ r) → beside_of e x y level ≡ cov8_of (corner_sd x y r)
  unfolding beside_of corner_sd
  edge_beside x y level h =
      split ((f0 <ᶠ x) && (f0 <ᶠ y))
      (λ t. cond t (edge_cover e x y) (cond (y <ᶠ x) (cov8_of (x -ᶠ e.r)) level) ≡ cov8_of (cond t (sqrt_of (x *ᶠ x +ᶠ y *ᶠ y) -ᶠ r) (cond (y <ᶠ x) (x -ᶠ r) (y -ᶠ r))))
      (λ _. edge_cover_lem x y)
      (λ _. split (y <ᶠ x) (λ t. cond t (cov8_of (x -ᶠ e.r)) level ≡ cov8_of (cond t (x -ᶠ r) (y -ᶠ r))) (λ _. ap (λ (k : Edge). cov8_of (x -ᶠ k.r)) own) (λ _. h))
