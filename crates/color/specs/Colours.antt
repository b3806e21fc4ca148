-- Colours, as the Rust has them: each f32 operation is rounded once, in its order. Assumes nothing.
use Rattle.std.specs.Prelude.{ℕ, ◌+◌, ◌-◌, ◌*◌, ◌/◌, min, cond, eqb, ℤ, pos, negsuc, Float}
use Rattle.std.specs.Float.{binary32}
use Rattle.std.specs.Float.Ieee.{of_bits}
use Rattle.mathf.specs.F32.{◌+ᶠ◌, ◌-ᶠ◌, ◌*ᶠ◌, ◌/ᶠ◌, ◌%ᶠ◌, of_ℕᶠ, f½, f1, f60, f255, f360}
use Rattle.mathf.specs.Order.{saturate_of}
use Rattle.mathf.specs.Whole.{floor_of}
use Rattle.mathf.specs.Convert.{to_u8, to_i32}
use Rattle.color.specs.declared.Color.{Color}
use Rattle.color.specs.Inks.{red, green, blue, packed}

abbrev pub rgba_of : ℕ → ℕ → ℕ → ℕ → Color
rgba_of r g b a = record { r = r; g = g; b = b; a = a }

abbrev pub rgb_of : ℕ → ℕ → ℕ → Color
rgb_of r g b = rgba_of r g b 255

abbrev pub hex_of : ℕ → Color
hex_of h = rgb_of (red h) (green h) (blue h)

abbrev pub from_pix_of : ℕ → Color
from_pix_of p = rgb_of (red p) (green p) (blue p)

abbrev pub pix_of : Color → ℕ
pix_of c = packed c.r c.g c.b

-- a part from 0 to 1 as a byte, rounded
abbrev pub byte_of : Float → ℕ
byte_of x = to_u8 (x *ᶠ f255 +ᶠ f½)

-- alpha times f, and alpha as a part of 1
abbrev pub fade_of : Color → Float → Color
fade_of c f = rgba_of c.r c.g c.b (to_u8 (of_ℕᶠ c.a *ᶠ saturate_of f +ᶠ f½))

abbrev pub alpha_of : Color → Float → Color
alpha_of c a = rgba_of c.r c.g c.b (byte_of (saturate_of a))

-- one byte of a mix of two colours, and the mix
abbrev pub between : ℕ → ℕ → Float → ℕ
between a b t = to_u8 (of_ℕᶠ a +ᶠ (of_ℕᶠ b -ᶠ of_ℕᶠ a) *ᶠ t +ᶠ f½)

unfoldable pub mix_of : Color → Color → Float → Color
mix_of c o x =
    let t = saturate_of x in
    rgba_of (between c.r o.r t) (between c.g o.g t) (between c.b o.b t) (between c.a o.a t)

abbrev pub lighten_of : Color → Float → Color
lighten_of c t = mix_of c (rgba_of 255 255 255 c.a) t

abbrev pub darken_of : Color → Float → Color
darken_of c t = mix_of c (rgba_of 0 0 0 c.a) t

-- 0.2126, 0.7152 and 0.0722, as f32
abbrev pub luma_of : Color → Float
luma_of c =
    let r = of_bits binary32 0x3e59_b3d0 *ᶠ of_ℕᶠ c.r in
    let g = of_bits binary32 0x3f37_1759 *ᶠ of_ℕᶠ c.g in
    let b = of_bits binary32 0x3d93_dd98 *ᶠ of_ℕᶠ c.b in
    (r +ᶠ g +ᶠ b) /ᶠ f255

-- one channel of two pixels mixed in 256 parts, t of them the second's, and the mixed pixel
abbrev pub mixed256 : ℕ → ℕ → ℕ → ℕ
mixed256 a b t = (a * (256 - t) + b * t) / 256

unfoldable pub mix_pix_of : ℕ → ℕ → ℕ → ℕ
mix_pix_of a b t256 =
    let t = min t256 256 in
    packed (mixed256 (red a) (red b) t) (mixed256 (green a) (green b) t) (mixed256 (blue a) (blue b) t)

-- a colour from three parts of 1, and the six sectors of the hues
abbrev pub tones_of : Float → Float → Float → Color
tones_of r g b = rgb_of (byte_of r) (byte_of g) (byte_of b)

unfoldable pub sector_of : ℤ → Float → Float → Float → Float → Color
sector_of (negsuc _) v p q t = tones_of v p q
sector_of (pos n) v p q t =
    cond (eqb n 0) (tones_of v t p)
    (cond (eqb n 1) (tones_of q v p)
    (cond (eqb n 2) (tones_of p v t)
    (cond (eqb n 3) (tones_of p q v)
    (cond (eqb n 4) (tones_of t p v) (tones_of v p q)))))

unfoldable pub hsv_of : Float → Float → Float → Color
hsv_of x s v =
    let h = (x %ᶠ f360 +ᶠ f360) %ᶠ f360 /ᶠ f60 in
    let i = floor_of h in
    let f = h -ᶠ i in
    let p = v *ᶠ (f1 -ᶠ s) in
    let q = v *ᶠ (f1 -ᶠ s *ᶠ f) in
    let t = v *ᶠ (f1 -ᶠ s *ᶠ (f1 -ᶠ f)) in
    sector_of (to_i32 i) v p q t
