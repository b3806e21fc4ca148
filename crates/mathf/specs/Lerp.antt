-- Between two floats: each operation rounded once, in the order of the Rust. Assumes nothing.
use Rattle.std.specs.Prelude.{Float}
use Rattle.mathf.specs.F32.{◌+ᶠ◌, ◌-ᶠ◌, ◌*ᶠ◌, ◌/ᶠ◌, f2, f3}
use Rattle.mathf.specs.Order.{saturate_of}

abbrev pub lerp_of : Float → Float → Float → Float
lerp_of a b t = a +ᶠ (b -ᶠ a) *ᶠ t

-- the curve of `smoothstep` at a t from 0 to 1
abbrev pub curve_of : Float → Float
curve_of t = t *ᶠ t *ᶠ (f3 -ᶠ f2 *ᶠ t)

abbrev pub smoothstep_of : Float → Float → Float → Float
smoothstep_of e0 e1 x = curve_of (saturate_of ((x -ᶠ e0) /ᶠ (e1 -ᶠ e0)))
