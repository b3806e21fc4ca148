-- Source over, by whole numbers. A pixel is 0x00RRGGBB. Assumes nothing.
use Rattle.std.specs.Prelude.{ℕ, ◌+◌, ◌-◌, ◌*◌, ◌/◌, ◌%◌, Bool, false, cond, not, ◌&&◌, leb, eqb}
use Rattle.color.specs.declared.Color.{Color}
use Rattle.color.specs.declared.Inked.{Inked}
use Rattle.color.specs.declared.BlendAnswer.{BlendAnswer}

-- the three channels of a pixel, and the pixel of three channels
abbrev pub red : ℕ → ℕ
red p = p / 65536 % 256

abbrev pub green : ℕ → ℕ
green p = p / 256 % 256

abbrev pub blue : ℕ → ℕ
blue p = p % 256

abbrev pub packed : ℕ → ℕ → ℕ → ℕ
packed r g b = r * 65536 + g * 256 + b

-- an ink of alpha a over an old channel, cut down
abbrev pub channel : ℕ → ℕ → ℕ → ℕ
channel ink old a = (ink * a + old * (255 - a) + 127) / 255

-- alpha 0 leaves the old pixel with its top byte, 255 and above is the plain colour
unfoldable pub blended : ℕ → ℕ → ℕ → ℕ → ℕ → ℕ
blended old r g b a =
    cond (eqb a 0) old
    (cond (leb 255 a) (packed r g b)
    (packed (channel r (red old) a) (channel g (green old) a) (channel b (blue old) a)))

-- an alpha scaled by a coverage; a coverage of 255 or more keeps it
unfoldable pub covered_by : ℕ → ℕ → ℕ
covered_by a cov = cond (leb 255 cov) a ((a * cov + 127) / 255)

-- a colour's inks over a pixel at alpha a, and at its own alpha scaled by a coverage
abbrev pub over : ℕ → Color → ℕ → ℕ
over p c a = blended p c.r c.g c.b a

abbrev pub over_c : ℕ → Color → ℕ → ℕ
over_c p c cov = over p c (covered_by c.a cov)

-- a pixel's new value, and whether it differs from the old one
abbrev pub inked_of : ℕ → ℕ → Inked
inked_of old v = record { value = v; altered = not (eqb v old) }

-- The public call: an ink over 255 is refused by 11, whatever the alpha; 0 is returned beside it, and nothing is altered.
abbrev pub inks_ok : ℕ → ℕ → ℕ → Bool
inks_ok r g b = leb r 255 && leb g 255 && leb b 255

abbrev pub blend_number : ℕ → ℕ → ℕ → ℕ
blend_number r g b = cond (inks_ok r g b) 0 11

unfoldable pub blend_of : ℕ → ℕ → ℕ → ℕ → ℕ → BlendAnswer
blend_of old r g b a =
    let v = blended old r g b a in
    record { number = blend_number r g b; value = cond (inks_ok r g b) v 0; altered = cond (inks_ok r g b) (not (eqb v old)) false }
