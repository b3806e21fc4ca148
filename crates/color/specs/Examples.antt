-- The paper's starred examples of blending, over the definitions: each side computes. Assumes nothing.
use Rattle.std.specs.Prelude.{false, ◌≡◌, refl, ℕ}
use Rattle.color.specs.Inks.{blended, covered_by, over, over_c, blend_of}
use Rattle.color.specs.Colours.{rgba_of}

-- old 0, alpha 1: ink 127 gives 0, and 128 gives 1
pub ink_127 : blended 0 0 0 127 1 ≡ 0
unfolding blended
ink_127 = refl

pub ink_128 : blended 0 0 0 128 1 ≡ 1
unfolding blended
ink_128 = refl

-- red 255 at alpha 128 on 0
pub red_128 : blended 0 255 0 0 128 ≡ 0x0080_0000
unfolding blended
red_128 = refl

-- alpha 0 leaves the pixel, alpha 1 clears its top byte
pub alpha_0 : (r g b : ℕ) → blended 0xff12_3456 r g b 0 ≡ 0xff12_3456
unfolding blended
alpha_0 r g b = refl

pub alpha_1 : blended 0xff00_0000 0 0 0 1 ≡ 0
unfolding blended
alpha_1 = refl

-- r = 256 is refused, at alpha 0 too
pub red_256 : (old a : ℕ) → blend_of old 256 0 0 a ≡ record { number = 11; value = 0; altered = false }
unfolding blend_of
red_256 old a = refl

-- alpha 128 at coverage 128 is 64
pub cover_128 : (p r g b : ℕ) → over_c p (rgba_of r g b 128) 128 ≡ over p (rgba_of r g b 128) 64
unfolding covered_by
cover_128 p r g b = refl
