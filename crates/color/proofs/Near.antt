-- A blended pixel is the nearest to the exact mix, and a mixed channel lies between ink and old. Assumes nothing.
use mathlib.Core.Path.{◌≡◌, refl, sym, ap, subst, ◌∙◌}
use mathlib.Core.Bool.{Bool, true, false, cond}
use Prim.Native.Nat.{ℕ, ◌+◌, ◌-◌, ◌*◌, ◌/◌, ◌≤◌, ◌<◌, min, max}
use native.Mathlib.Omega.{arith}
use borrow.Author.Tests.{leb-true, leb-false, eqb-true, eqb-false, le-leb}
use lib.Dec.{leb, eqb}
use lib.Ieee.{Float, Format, nan, inf, fin, of_bits, add, mul, lt, to_unsigned}
use Rattle.mathf.specs.Order.{saturate_of}
use Rattle.color.specs.declared.Color.{Color}
use Rattle.color.specs.Inks.{red, green, blue, packed, channel, blended, covered_by, blend_of}
use Rattle.color.specs.Colours.{rgba_of, mix_of}
use Rattle.color.specs.Trust.{Nearest, Over, Trust}
use Rattle.color.proofs.Weights.{weighted_le, weighted_ge}

module _ (ink old a : ℕ) (h : a ≤ 255) where
  pub channel_above : min ink old ≤ channel ink old a
  channel_above = omega (arith, weighted_ge 255 (min ink old) ink old a (255 - a) (omega arith) (omega arith) (omega arith))

  pub channel_below : channel ink old a ≤ max ink old
  channel_below = omega (arith, weighted_le 255 (max ink old) ink old a (255 - a) (omega arith) (omega arith) (omega arith))

-- by the two values of a test
split : (t : Bool) (P : Bool → Type 0) → (t ≡ true → P true) → (t ≡ false → P false) → P t
split true P y n = y refl
split false P y n = n refl

-- the whole number that is nearest to m / 255: cut down from a half more, or that quotient itself; and only one is
near : (m : ℕ) → Nearest m ((m + 127) / 255)
near m = record { within = omega arith; nearest = λ k. omega arith }

near_whole : (m n : ℕ) → m ≡ n * 255 → Nearest m n
near_whole m n e = record { within = omega arith; nearest = λ k. omega arith }

near_one : (m x y : ℕ) → Nearest m x → Nearest m y → x ≡ y
near_one m x y p q = omega arith

-- a mixed channel is a byte
channel_byte : (ink p a : ℕ) → ink ≤ 255 → p ≤ 255 → a < 255 → channel ink p a ≤ 255
channel_byte ink p a i j h = omega (arith, channel_below ink p a (omega arith))

-- the channels of a pixel that is packed from bytes; its top byte is empty
module _ (r g b : ℕ) (hr : r ≤ 255) (hg : g ≤ 255) (hb : b ≤ 255) where
  red_packed : red (packed r g b) ≡ r
  red_packed = omega arith

  green_packed : green (packed r g b) ≡ g
  green_packed = omega arith

  blue_packed : blue (packed r g b) ≡ b
  blue_packed = omega arith

  packed_fits : packed r g b < 0x0100_0000
  packed_fits = omega arith

-- ---- the three ways of an alpha

-- none: the old pixel
over_zero : (old r g b : ℕ) → Over old r g b 0 old
over_zero old r g b = record {
  reds = near_whole _ _ (omega arith);
  greens = near_whole _ _ (omega arith);
  blues = near_whole _ _ (omega arith);
  left = λ e. refl;
  top_byte = λ h. absurd (omega arith);
}

module _ (old r g b a : ℕ) (hr : r ≤ 255) (hg : g ≤ 255) (hb : b ≤ 255) where
  -- all: the plain inks
  over_plain : 255 ≤ a → Over old r g b a (packed r g b)
  over_plain h =
      let full : min a 255 ≡ 255 = omega arith in
      record {
        reds = rw (full, red_packed r g b hr hg hb) (near_whole _ _ (omega arith));
        greens = rw (full, green_packed r g b hr hg hb) (near_whole _ _ (omega arith));
        blues = rw (full, blue_packed r g b hr hg hb) (near_whole _ _ (omega arith));
        left = λ e. absurd (omega arith);
        top_byte = λ k. packed_fits r g b hr hg hb;
      }

  -- some: the mix
  over_mixed : 1 ≤ a → a < 255 → Over old r g b a (packed (channel r (red old) a) (channel g (green old) a) (channel b (blue old) a))
  over_mixed h l =
      let some : min a 255 ≡ a = omega arith in
      let mr = channel_byte r (red old) a hr (omega arith) l in
      let mg = channel_byte g (green old) a hg (omega arith) l in
      let mb = channel_byte b (blue old) a hb (omega arith) l in
      record {
        reds = rw (some, red_packed _ _ _ mr mg mb) (near _);
        greens = rw (some, green_packed _ _ _ mr mg mb) (near _);
        blues = rw (some, blue_packed _ _ _ mr mg mb) (near _);
        left = λ e. absurd (omega arith);
        top_byte = λ k. packed_fits _ _ _ mr mg mb;
      }

  pub blended_over : Over old r g b a (blended old r g b a)
  unfolding blended
  blended_over =
      split (eqb a 0) (λ t. Over old r g b a (cond t old (cond (leb 255 a) (packed r g b) (packed (channel r (red old) a) (channel g (green old) a) (channel b (blue old) a)))))
      (λ e. subst (λ z. Over old r g b z old) (sym (eqb-true a 0 e)) (over_zero old r g b))
      (λ e.
      split (leb 255 a) (λ t. Over old r g b a (cond t (packed r g b) (packed (channel r (red old) a) (channel g (green old) a) (channel b (blue old) a))))
      (λ f. over_plain (leb-true 255 a f))
      (λ f. over_mixed (omega (arith, eqb-false a 0 e)) (leb-false 255 a f)))

-- ---- coverage

scaled_near : (a cov : ℕ) → Nearest (a * min cov 255) (covered_by a cov)
unfolding covered_by
scaled_near a cov =
    split (leb 255 cov) (λ t. Nearest (a * min cov 255) (cond t a ((a * cov + 127) / 255)))
    (λ e.
    let full : min cov 255 ≡ 255 = omega (arith, leb-true 255 cov e) in
    rw full (near_whole _ _ refl))
    (λ e.
    let some : min cov 255 ≡ cov = omega (arith, leb-false 255 cov e) in
    rw some (near _))

-- ---- the public call

called_over : (old r g b a : ℕ) → r ≤ 255 → g ≤ 255 → b ≤ 255 → Over old r g b a (blend_of old r g b a).value
unfolding blend_of
called_over old r g b a hr hg hb = rw (le-leb r 255 hr, le-leb g 255 hg, le-leb b 255 hb) (blended_over old r g b a hr hg hb)

-- ---- one pixel alone

packed_again : (v : ℕ) → v < 0x0100_0000 → v ≡ packed (red v) (green v) (blue v)
packed_again v h = omega arith

same_pixel : (v w : ℕ) → v < 0x0100_0000 → w < 0x0100_0000 → red v ≡ red w → green v ≡ green w → blue v ≡ blue w → v ≡ w
same_pixel v w hv hw r g b = packed_again v hv ∙ ap (λ x. packed x (green v) (blue v)) r ∙ ap (λ x. packed (red w) x (blue v)) g ∙ ap (packed (red w) (green w)) b ∙ sym (packed_again w hw)

over_one : (old r g b a v w : ℕ) → Over old r g b a v → Over old r g b a w → v ≡ w
over_one old r g b a v w p q =
    split (eqb a 0) (λ t. v ≡ w)
    (λ e. p.left (eqb-true a 0 e) ∙ sym (q.left (eqb-true a 0 e)))
    (λ e.
    let h : 1 ≤ a = omega (arith, eqb-false a 0 e) in
    same_pixel v w (p.top_byte h) (q.top_byte h) (near_one _ _ _ p.reds q.reds) (near_one _ _ _ p.greens q.greens) (near_one _ _ _ p.blues q.blues))

-- a NaN goes through a product and a sum
mul_nan : (f : Format) (x : Float) → mul f x nan ≡ nan
unfolding mul
mul_nan f nan = refl
mul_nan f (inf s) = refl
mul_nan f (fin s m e) = refl

add_nan : (f : Format) (x : Float) → add f x nan ≡ nan
unfolding add
add_nan f nan = refl
add_nan f (inf s) = refl
add_nan f (fin s m e) = refl

nan_add : (f : Format) (x : Float) → add f nan x ≡ nan
unfolding add
nan_add f x = refl

saturate_nan : saturate_of nan ≡ nan
unfolding lt of_bits
saturate_nan = refl

nan_zero : to_unsigned 8 nan ≡ 0
unfolding to_unsigned
nan_zero = refl

nan_zeros : (c o : Color) → mix_of c o nan ≡ rgba_of 0 0 0 0
unfolding mix_of
nan_zeros c o = simp (saturate_nan, mul_nan, add_nan, nan_add, nan_zero)

pub trust : Trust
trust =
    record {
      blends = blended_over;
      called = called_over;
      overs = λ p c a h. blended_over p c.r c.g c.b a h.reds h.greens h.blues;
      covers = λ p c cov h. blended_over p c.r c.g c.b (covered_by c.a cov) h.reds h.greens h.blues;
      scaled = scaled_near;
      only = over_one;
      mix_nan = nan_zeros;
    }
