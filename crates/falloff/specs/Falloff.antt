-- The falloff of a shadow: its 97 fractions by the formula of gfx.rs, their table on file, the level of a fraction, and the table
-- of levels. Each f32 operation is rounded once, in the order written.
use Rattle.std.specs.Prelude.{◌≡◌, List, [], ◌∷◌, ◌++◌, ℕ, zero, suc, ◌*◌, ◌^◌, ◌<◌, Float, length, get_or}
use Rattle.std.specs.Float.{binary32}
use Rattle.std.specs.Float.Ieee.{to_bits}
use Rattle.mathf.specs.F32.{◌+ᶠ◌, ◌-ᶠ◌, ◌*ᶠ◌, ◌/ᶠ◌, of_ℕᶠ, f½, f1, f96}
use Rattle.mathf.specs.Convert.{to_u32}
use Rattle.mathf.specs.Lerp.{curve_of}

-- fraction i of 0 to 96, and its bit pattern
abbrev pub fraction_of : ℕ → Float
fraction_of i = f1 -ᶠ curve_of (of_ℕᶠ i /ᶠ f96)

unfoldable pub fraction_bits : ℕ → ℕ
fraction_bits i = to_bits binary32 (fraction_of i)

-- the table on file: each entry is bit for bit the formula's f32 value, and the pattern of a finite number, sign bit 0
pub record OnFile (patterns : List ℕ) : Type 0 where
  pub long : length patterns ≡ 97
  pub entry : (i : ℕ) → i < 97 → get_or patterns i 0 ≡ fraction_bits i
  pub number : (i : ℕ) → i < 97 → get_or patterns i 0 < 255 * 2 ^ 23

-- the level of a fraction for a colour's alpha a
abbrev pub level_by : Float → ℕ → ℕ
level_by f a = to_u32 (f *ᶠ of_ℕᶠ a +ᶠ f½)

-- ---- the levels, of a colour's alpha a

-- level i of 0 to 96
unfoldable pub level_of : ℕ → ℕ → ℕ
level_of a i = level_by (fraction_of i) a

-- f 0, f 1, .. up to n
unfoldable pub table : (ℕ → ℕ) → ℕ → List ℕ
table f zero = []
table f (suc n) = table f n ++ (f n ∷ [])
