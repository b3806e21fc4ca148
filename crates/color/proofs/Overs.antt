-- Laws of `over` and `over_c`. Assumes nothing.
use mathlib.Core.Path.{◌≡◌, refl, sym, ap, ◌∙◌}
use mathlib.Core.Bool.{Bool, true, false, cond}
use Prim.Native.Nat.{ℕ, ◌%◌, ◌≤◌}
use lib.Dec.{leb}
use native.Mathlib.Nat.{mul-zero}
use native.Mathlib.Omega.{arith}
use borrow.Author.Tests.{le-leb, ne_eqb, leb-false}
use Rattle.color.specs.declared.Color.{Color}
use Rattle.color.specs.Inks.{blended, covered_by, over, over_c}
use Rattle.color.specs.Colours.{pix_of}

-- no alpha leaves the pixel
pub over_none : (p : ℕ) (c : Color) → over p c 0 ≡ p
unfolding blended
over_none p c = refl

pub over_idle : (p : ℕ) (c : Color) (a : ℕ) → a ≡ 0 → p ≡ over p c a
over_idle p c a e = sym (ap (over p c) e ∙ over_none p c)

-- an alpha of 255 or more is the plain colour
pub over_full : (p : ℕ) (c : Color) (a : ℕ) → 255 ≤ a → over p c a ≡ pix_of c
unfolding blended
over_full p c a h = rw (ne_eqb a 0 (λ e. omega arith), le-leb 255 a h)

-- no coverage leaves the pixel
pub over_c_none : (p : ℕ) (c : Color) → over_c p c 0 ≡ p
unfolding blended covered_by
over_c_none p c = rw mul-zero

pub over_c_idle : (p : ℕ) (c : Color) (cov : ℕ) → cov ≡ 0 → p ≡ over_c p c cov
over_c_idle p c cov e = sym (ap (over_c p c) e ∙ over_c_none p c)

-- a coverage of 255 or more keeps the alpha
pub over_c_full : (p : ℕ) (c : Color) (cov : ℕ) → 255 ≤ cov → over_c p c cov ≡ over p c c.a
unfolding covered_by
over_c_full p c cov h = rw (le-leb 255 cov h)

-- a choice that is made below 255 alone may read a byte of its number
pub byte_choice : (n i : ℕ) (f : ℕ → ℕ) → cond (leb 255 n) i (f (n % 256)) ≡ cond (leb 255 n) i (f n)
byte_choice n i f = go (leb 255 n) refl
  where
    go : (t : Bool) → leb 255 n ≡ t → cond (leb 255 n) i (f (n % 256)) ≡ cond (leb 255 n) i (f n)
    go true e = rw e
    go false e =
        let same : n % 256 ≡ n = omega (arith, leb-false 255 n e) in
        ap (λ k. cond (leb 255 n) i (f k)) same
