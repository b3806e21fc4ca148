-- What the paper promises of blending and mixing, over the definitions. `trust` of proofs/Near proves it. Assumes nothing.
use Rattle.std.specs.Prelude.{◌≡◌, ℕ, ◌+◌, ◌-◌, ◌*◌, ◌≤◌, ◌<◌, min}
use Rattle.std.specs.Float.{nan}
use Rattle.color.specs.declared.Color.{Color}
use Rattle.color.specs.Inks.{red, green, blue, blended, covered_by, over, over_c, blend_of}
use Rattle.color.specs.Colours.{rgba_of, mix_of}

-- 255 times the exact mix of an ink of alpha a and an old channel
abbrev pub exact255 : ℕ → ℕ → ℕ → ℕ
exact255 ink old a = ink * a + old * (255 - a)

-- how far 255 times n is off from m, either way
abbrev pub off : ℕ → ℕ → ℕ
off m n = (255 * n - m) + (m - 255 * n)

-- n is never more than 127/255 off m / 255, and no whole number is nearer
pub record Nearest (m n : ℕ) : Type 0 where
  pub within : off m n ≤ 127
  pub nearest : (k : ℕ) → off m n ≤ off m k

-- v is the inks r, g and b over the old pixel: each channel is the nearest to the exact mix at alpha a, and from 255 up at 255.
-- Alpha 0 leaves the old pixel with its top byte; from alpha 1 up the top byte is 0.
pub record Over (old r g b a v : ℕ) : Type 0 where
  pub reds : Nearest (exact255 r (red old) (min a 255)) (red v)
  pub greens : Nearest (exact255 g (green old) (min a 255)) (green v)
  pub blues : Nearest (exact255 b (blue old) (min a 255)) (blue v)
  pub left : a ≡ 0 → v ≡ old
  pub top_byte : 1 ≤ a → v < 0x0100_0000

-- the channels of a colour are bytes, as its type says
pub record Bytes (c : Color) : Type 0 where
  pub reds : c.r ≤ 255
  pub greens : c.g ≤ 255
  pub blues : c.b ≤ 255

pub record Trust : Type 0 where
  -- of any inks up to 255 at any alpha; the public call, which refuses other inks, gives such a value too
  pub blends : (old r g b a : ℕ) → r ≤ 255 → g ≤ 255 → b ≤ 255 → Over old r g b a (blended old r g b a)
  pub called : (old r g b a : ℕ) → r ≤ 255 → g ≤ 255 → b ≤ 255 → Over old r g b a (blend_of old r g b a).value
  -- of a colour at any alpha, and at its own alpha scaled by any coverage
  pub overs : (p : ℕ) (c : Color) (a : ℕ) → Bytes c → Over p c.r c.g c.b a (over p c a)
  pub covers : (p : ℕ) (c : Color) (cov : ℕ) → Bytes c → Over p c.r c.g c.b (covered_by c.a cov) (over_c p c cov)
  -- the scaled alpha is the nearest to alpha × coverage / 255, and from coverage 255 up it is the alpha
  pub scaled : (a cov : ℕ) → Nearest (a * min cov 255) (covered_by a cov)
  -- a pixel is the inks over the old one in no other way
  pub only : (old r g b a v w : ℕ) → Over old r g b a v → Over old r g b a w → v ≡ w
  -- a mix with NaN gives four zeros
  pub mix_nan : (c o : Color) → mix_of c o nan ≡ rgba_of 0 0 0 0
