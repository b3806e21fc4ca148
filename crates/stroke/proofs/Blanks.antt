-- Where a corner's band covers nothing, by the squared distance of its centre: outside the edge one share is 0, inside the band the other is 1.
--     blank_out, blank_in    the coverage half a pixel outside, and half a pixel inside the band
--     from_at, upto_at       what a test of one number gives for all beyond it
-- Assumes nothing.
use mathlib.Core.Path.{◌≡◌, refl, sym, ap, subst, ◌∙◌}
use mathlib.Core.Logic.{◌⊎◌, inl, inr}
use mathlib.Core.Bool.{true, false, ◌&&◌}
use lib.Dec.{T}
use lib.IntN.{pos, negsuc}
use lib.Ieee.{Float, nan, inf, fin, binary32, of_bits, round, add, sub, mul, neg, lt, eq, le, fits, to_unsigned}
use lib.Ieee.Bits.{is_true}
use lib.Ieee.Fits.{add-fits}
use lib.Ieee.Scale.{finite}
use Rattle.mathf.specs.F32.{◌+ᶠ◌, ◌-ᶠ◌, ◌*ᶠ◌, ◌≤ᶠ◌, f½}
use Rattle.mathf.specs.Order.{clamp_of}
use Rattle.mathf.specs.Convert.{to_u32}
use Rattle.mathf.specs.Root.{sqrt_of}
use Rattle.mathf.proofs.Compared.{le_same}
use Rattle.mathf.proofs.Monotone.{sub_mono, mul_mono, sqrt_mono}
use Rattle.mathf.proofs.Saturating.{passed}
use Rattle.geom.proofs.Bools.{and_left, and_right}
use Rattle.paints.proofs.Covers.{finite_between, level_of_lem, rest_low, rest_high, share_low, share_high, share_range, none_level, none_finite, sub_above, sum_below, real, squares}
use Rattle.stroke.specs.Stroke.{band_cover}
use Rattle.stroke.specs.Rows.{BlankFrom, BlankUpto}

abbrev z0 : Float
z0 = fin false 0 (pos 0)

abbrev z½ : Float
z½ = fin false 1 (negsuc 0)

abbrev -z½ : Float
-z½ = fin true 1 (negsuc 0)

abbrev z1 : Float
z1 = fin false 1 (pos 0)

abbrev z255 : Float
z255 = fin false 255 (pos 0)

-- ---- a product of two shares, one of which is 0
no_square : mul binary32 z0 z0 ≡ z0
unfolding mul round
no_square = refl

product_none : (a b x y : Float) → T (finite a) → T (finite b) → mul binary32 a b ≡ z0 → T (le z0 x) → T (le x a) → T (le z0 y) → T (le y b) → to_u32 (x *ᶠ y *ᶠ z255 +ᶠ z½) ≡ 0
product_none a b x y p q e h k i j =
    let fx = finite_between z0 x a tt p h k in
    let fy = finite_between z0 y b tt q i j in
    let low = subst (λ (z : Float). T (le z (mul binary32 x y))) no_square (mul_mono binary32 z0 x z0 y tt fx tt fy (le_same z0 tt) (le_same z0 tt) h i) in
    let high = subst (λ (z : Float). T (le (mul binary32 x y) z)) e (mul_mono binary32 x a y b fx p fy q h i k j) in
    level_of_lem z0 (mul binary32 x y) tt none_finite (le_same z0 tt) low high ∙ none_level

left_none : mul binary32 z0 z1 ≡ z0
unfolding mul round
left_none = refl

right_none : mul binary32 z1 z0 ≡ z0
unfolding mul round
right_none = refl

-- what is left of 1 by a share
no_rest : sub binary32 z1 z1 ≡ z0
unfolding sub add neg round
no_rest = refl

all_rest : sub binary32 z1 z0 ≡ z1
unfolding sub add neg round
all_rest = refl

rest_from : (c : Float) → T (finite c) → T (le c z1) → T (le z0 (sub binary32 z1 c))
rest_from c f h = subst (λ (z : Float). T (le z (sub binary32 z1 c))) no_rest (sub_mono binary32 z1 z1 z1 c tt tt tt f (le_same z1 tt) h)

rest_upto : (c : Float) → T (finite c) → T (le z0 c) → T (le (sub binary32 z1 c) z1)
rest_upto c f h = subst (λ (z : Float). T (le (sub binary32 z1 c) z)) all_rest (sub_mono binary32 z1 z1 c z0 tt tt f tt (le_same z1 tt) h)

rest_none : (c : Float) → T (finite c) → T (le z1 c) → T (le (sub binary32 z1 c) z0)
rest_none c f h = subst (λ (z : Float). T (le (sub binary32 z1 c) z)) no_rest (sub_mono binary32 z1 z1 c z1 tt tt f tt (le_same z1 tt) h)

-- a share that is a NaN covers nothing
nan_right : (x : Float) → to_u32 (x *ᶠ (z1 -ᶠ nan) *ᶠ z255 +ᶠ z½) ≡ 0
unfolding mul sub add neg to_unsigned
nan_right nan = refl
nan_right (inf s) = refl
nan_right (fin s m e) = refl

nan_left : (y : Float) → to_u32 (nan *ᶠ y *ᶠ z255 +ᶠ z½) ≡ 0
unfolding mul add to_unsigned
nan_left y = refl

-- ---- half a pixel outside the edge, and half a pixel inside the band
pub blank_out : (d width : Float) → T (le z½ d) → band_cover d width ≡ 0
unfolding band_cover of_bits
blank_out d width h = go (share_range (sub binary32 z½ (add binary32 d width)))
  where
    out : Float
    out = clamp_of (sub binary32 z½ d) z0 z1

    in' : Float
    in' = clamp_of (sub binary32 z½ (add binary32 d width)) z0 z1

    go : (in' ≡ nan) ⊎ (T (le z0 in') × T (le in' z1)) → to_u32 (out *ᶠ (z1 -ᶠ in') *ᶠ z255 +ᶠ z½) ≡ 0
    go (inl e) = ap (λ (c : Float). to_u32 (out *ᶠ (z1 -ᶠ c) *ᶠ z255 +ᶠ z½)) e ∙ nan_right out
    go (inr r) =
        let f = finite_between z0 in' z1 tt tt r.0 r.1 in
        let s = share_low (sub binary32 z½ d) (rest_low d h) in
        product_none z0 z1 out (sub binary32 z1 in') tt tt left_none s.0 s.1 (rest_from in' f r.1) (rest_upto in' f r.0)

pub blank_in : (d width : Float) → T (le (add binary32 d width) -z½) → band_cover d width ≡ 0
unfolding band_cover of_bits
blank_in d width h = go (share_range (sub binary32 z½ d))
  where
    out : Float
    out = clamp_of (sub binary32 z½ d) z0 z1

    in' : Float
    in' = clamp_of (sub binary32 z½ (add binary32 d width)) z0 z1

    go : (out ≡ nan) ⊎ (T (le z0 out) × T (le out z1)) → to_u32 (out *ᶠ (z1 -ᶠ in') *ᶠ z255 +ᶠ z½) ≡ 0
    go (inl e) = ap (λ (c : Float). to_u32 (c *ᶠ (z1 -ᶠ in') *ᶠ z255 +ᶠ z½)) e ∙ nan_left (z1 -ᶠ in')
    go (inr r) =
        let s = share_high (sub binary32 z½ (add binary32 d width)) (rest_high (add binary32 d width) h) in
        let f = finite_between z1 in' z1 tt tt s.0 s.1 in
        product_none z1 z0 out (sub binary32 z1 in') tt tt right_none r.0 r.1 (rest_from in' f s.1) (rest_none in' f s.0)

-- ---- as the code tests a number
pub from_at : (k r width : Float) → T (fits binary32 k) → (f½ ≤ᶠ sqrt_of k -ᶠ r) ≡ true → BlankFrom r width k
unfolding of_bits
from_at k r width f t = λ d g h. blank_out (sub binary32 (sqrt_of d) r) width (sub_above (sqrt_of k) (sqrt_of d) r (sqrt_mono k d f g (real k r (passed t)) (passed h)) (passed t))

sub_upto : (m x y r : Float) → T (finite m) → T (le x y) → T (le (sub binary32 y r) m) → T (le (sub binary32 x r) m)
unfolding sub
sub_upto nan x y r f h k = absurd f
sub_upto (inf s) x y r f h k = absurd f
sub_upto (fin u p q) x y r f h k = sum_below u p q x y (neg r) h k

add_upto : (x m width : Float) → T (le x m) → T (le (add binary32 m width) -z½) → T (le (add binary32 x width) -z½)
add_upto x m width h k = sum_below true 1 (negsuc 0) x m width h k

pub upto_at : (k r width : Float) → T (fits binary32 k) → T (finite (sqrt_of k -ᶠ r)) → (sqrt_of k -ᶠ r +ᶠ width ≤ᶠ neg f½) ≡ true → BlankUpto r width k
unfolding of_bits neg
upto_at k r width f m t = λ d g z h.
    blank_in (sub binary32 (sqrt_of d) r) width
    (add_upto (sub binary32 (sqrt_of d) r) (sub binary32 (sqrt_of k) r) width
    (sub_upto (sub binary32 (sqrt_of k) r) (sqrt_of d) (sqrt_of k) r m (sqrt_mono d k g f (passed z) (passed h)) (le_same (sub binary32 (sqrt_of k) r) m))
    (passed t))

-- tested with two bounds, between which a number is finite
pub upto_test : (lo hi k r width : Float) → T (finite lo) → T (finite hi) → T (fits binary32 k)
    → ((lo ≤ᶠ sqrt_of k -ᶠ r) && (sqrt_of k -ᶠ r ≤ᶠ hi)) && (sqrt_of k -ᶠ r +ᶠ width ≤ᶠ neg f½) ≡ true → BlankUpto r width k
upto_test lo hi k r width p q f t =
    let m = sqrt_of k -ᶠ r in
    let both = and_left ((lo ≤ᶠ m) && (m ≤ᶠ hi)) (m +ᶠ width ≤ᶠ neg f½) t in
    upto_at k r width f (finite_between lo m hi p q (passed (and_left (lo ≤ᶠ m) (m ≤ᶠ hi) both)) (passed (and_right (lo ≤ᶠ m) (m ≤ᶠ hi) both)))
    (and_right ((lo ≤ᶠ m) && (m ≤ᶠ hi)) (m +ᶠ width ≤ᶠ neg f½) t)

-- where a test fails there is a NaN, beyond which nothing lies
no_number : of_bits binary32 0x7FC0_0000 ≡ nan
unfolding of_bits
no_number = refl

nan_low : (k : Float) → T (le nan k) → ⊥
unfolding le lt eq
nan_low k h = h

nan_high : (x : Float) → T (le x nan) → ⊥
unfolding le lt eq
nan_high nan h = h
nan_high (inf s) h = h
nan_high (fin s m e) h = h

pub from_none : (r width : Float) → BlankFrom r width (of_bits binary32 0x7FC0_0000)
from_none r width = λ d g h. absurd (nan_low d (subst (λ (z : Float). T (le z d)) no_number (passed h)))

pub upto_none : (r width : Float) → BlankUpto r width (of_bits binary32 0x7FC0_0000)
upto_none r width = λ d g z h. absurd (nan_high d (subst (λ (y : Float). T (le d y)) no_number (passed h)))

-- the coverage of a point by the sum of the squares of its distances across and down
pub far_blank : (r width k x y : Float) → BlankFrom r width k → (k ≤ᶠ x *ᶠ x +ᶠ y *ᶠ y) ≡ true → 0 ≡ band_cover (sqrt_of (x *ᶠ x +ᶠ y *ᶠ y) -ᶠ r) width
far_blank r width k x y b h = sym (b (x *ᶠ x +ᶠ y *ᶠ y) (add-fits binary32 _ _) h)

pub near_blank : (r width k x y : Float) → BlankUpto r width k → (x *ᶠ x +ᶠ y *ᶠ y ≤ᶠ k) ≡ true → 0 ≡ band_cover (sqrt_of (x *ᶠ x +ᶠ y *ᶠ y) -ᶠ r) width
unfolding of_bits
near_blank r width k x y b h = let d = x *ᶠ x +ᶠ y *ᶠ y in sym (b d (add-fits binary32 _ _) (is_true (le z0 d) (squares x y k (passed h))) h)
