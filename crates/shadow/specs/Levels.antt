-- The alpha read from the table of levels, and where a shadow has faded. No call of the library cites this file.
use Rattle.std.specs.Prelude.{true, cond, ◌≡◌, List, ℕ, get_or, T, Float}
use Rattle.std.specs.Float.{binary32}
use Rattle.std.specs.Float.Ieee.{fits}
use Rattle.mathf.specs.F32.{◌-ᶠ◌, ◌≤ᶠ◌, f0, f96}
use Rattle.mathf.specs.Root.{sqrt_of}
use Rattle.mathf.specs.Convert.{to_usize}
use Rattle.shadow.specs.Shadow.{alpha_of}

-- the alpha at t levels out, from the table
unfoldable pub table_alpha : List ℕ → Float → ℕ
table_alpha lut t = cond (t ≤ᶠ f0) (get_or lut 0 0) (cond (f96 ≤ᶠ t) 0 (get_or lut (to_usize t) 0))

-- from the squared distance k of the centre of a corner on, there is no shadow
abbrev pub Faded : Float → Float → Float → Type 0
Faded r blur k = (a : ℕ) (d : Float) → T (fits binary32 d) → (k ≤ᶠ d) ≡ true → alpha_of a blur (sqrt_of d -ᶠ r) ≡ 0
