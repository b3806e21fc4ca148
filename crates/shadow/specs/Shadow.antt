-- The soft shadow of a rounded rectangle: `shadow_rrect` of gfx.rs, for one pixel. Each f32 operation is rounded once, in the
-- order written.
use Rattle.std.specs.Prelude.{Bool, cond, ◌&&◌, ◌||◌, ℕ, leb, eqb, ℤ, Float}
use Rattle.std.specs.Float.Ieee.{neg}
use Rattle.mathf.specs.F32.{◌+ᶠ◌, ◌-ᶠ◌, ◌*ᶠ◌, ◌/ᶠ◌, ◌<ᶠ◌, ◌≤ᶠ◌, f0, f2, f96}
use Rattle.mathf.specs.Root.{sqrt_of}
use Rattle.mathf.specs.Whole.{floor_of, ceil_of}
use Rattle.mathf.specs.Convert.{to_usize, to_i32}
use Rattle.mathf.specs.Order.{fabs_of}
use Rattle.geom.specs.declared.IRect.{IRect}
use Rattle.geom.specs.declared.Rect.{Rect}
use Rattle.geom.specs.Box.{no_box}
use Rattle.geom.specs.Plane.{inset_of, outer_of, float_ok, rect_ok}
use Rattle.color.specs.declared.Color.{Color}
use Rattle.color.specs.Inks.{over}
use Rattle.draw.specs.Draw.{in_columns}
use Rattle.paints.specs.declared.Rounded.{Rounded}
use Rattle.paints.specs.Paints.{centre_of, rounded_of}
unfoldable pub use Rattle.falloff.specs.Falloff.{level_of, table}

-- the floats given are finite and within 8,192 of 0
abbrev pub shadow_ok : Rect → Float → Float → Bool
shadow_ok rect r blur = rect_ok rect && (float_ok r && float_ok blur)

-- the reach: nothing where the colour has no alpha or the blur is not above 0
unfoldable pub shadow_reach : Rect → Float → Color → IRect
shadow_reach rect blur c = cond (eqb c.a 0 || (blur ≤ᶠ f0)) no_box (outer_of (inset_of rect (neg blur)))

-- ---- the falloff, of a colour's alpha a

-- how many levels out a signed distance lies: below 0 inside, 96 and more outside
unfoldable pub steps_out : Float → Float → Float
steps_out blur sd = (sd +ᶠ blur) *ᶠ (f96 /ᶠ (f2 *ᶠ blur))

-- `alpha_of`: the alpha at a signed distance
unfoldable pub alpha_of : ℕ → Float → Float → ℕ
alpha_of a blur sd =
    let t = steps_out blur sd in
    cond (t ≤ᶠ f0) (level_of a 0) (cond (f96 ≤ᶠ t) 0 (level_of a (to_usize t)))

-- ---- rows, by the centre yc of a row

abbrev pub row_dy : Rounded → Float → Float
row_dy s yc = fabs_of (yc -ᶠ s.cy)

abbrev pub row_qy : Rounded → Float → Float
row_qy s yc = row_dy s yc -ᶠ (s.hh -ᶠ s.r)

-- a row beside the straight part of the left and right sides: its middle columns, their alpha, and that beside them. The Rust
-- brings both ends to the row's columns under the clip, and where they meet or cross it takes the column `m` of the rectangle's
-- centre for both, so that there is no middle. Left out here: between the ends as they are lie the same of the row's columns
-- (draw proofs/Clamps, `crossed_columns`)
unfoldable pub straight_from : Rounded → Float → ℤ
straight_from s blur = to_i32 (ceil_of (s.cx -ᶠ s.hw +ᶠ blur))

unfoldable pub straight_upto : Rounded → Float → ℤ
straight_upto s blur = to_i32 (floor_of (s.cx +ᶠ s.hw -ᶠ blur))

-- with `skip_inside` the middle is left where the alpha is full
unfoldable pub straight_middle : ℕ → Float → Bool → Float → ℕ
straight_middle a blur skip sdy =
    let v = alpha_of a blur sdy in
    cond (skip && leb (level_of a 0) v) 0 v

unfoldable pub straight_side : Rounded → ℕ → Float → Float → Float → ℕ
straight_side s a blur sdy xc =
    let sdx = fabs_of (xc -ᶠ s.cx) -ᶠ s.hw in
    alpha_of a blur (cond (sdy <ᶠ sdx) sdx sdy)

-- any other row: its middle columns, and the alpha beside them. Here the Rust brings the first end to the row's columns, and the
-- second to those from there on: the same (draw proofs/Clamps, `clamped_columns`)
unfoldable pub corner_from : Rounded → ℤ
corner_from s = to_i32 (ceil_of (s.cx -ᶠ (s.hw -ᶠ s.r)))

unfoldable pub corner_upto : Rounded → ℤ
corner_upto s = to_i32 (floor_of (s.cx +ᶠ (s.hw -ᶠ s.r)))

unfoldable pub corner_side : Rounded → ℕ → Float → Float → Float → ℕ
corner_side s a blur qy xc =
    let qx = fabs_of (xc -ᶠ s.cx) -ᶠ (s.hw -ᶠ s.r) in
    alpha_of a blur (cond (f0 <ᶠ qx) (sqrt_of (qx *ᶠ qx +ᶠ qy *ᶠ qy) -ᶠ s.r) (qy -ᶠ s.r))

-- ---- the pixel in column x and row y: the colour over it, at the alpha that its place has

unfoldable pub straight_alpha : Rounded → ℕ → Float → Bool → Float → ℕ → ℕ
straight_alpha s a blur skip sdy x =
    cond (in_columns (straight_from s blur) (straight_upto s blur) x) (straight_middle a blur skip sdy)
    (straight_side s a blur sdy (centre_of x))

unfoldable pub corner_alpha : Rounded → ℕ → Float → Float → ℕ → ℕ
corner_alpha s a blur qy x =
    cond (in_columns (corner_from s) (corner_upto s) x) (alpha_of a blur (qy -ᶠ s.r)) (corner_side s a blur qy (centre_of x))

unfoldable pub shade_ink : Rounded → Float → Color → Bool → ℕ → ℕ → ℕ → ℕ
shade_ink s blur c skip x y p =
    let qy = row_qy s (centre_of y) in
    let sdy = row_dy s (centre_of y) -ᶠ s.hh in
    over p c (cond (qy ≤ᶠ f0) (straight_alpha s c.a blur skip sdy x) (corner_alpha s c.a blur qy x))

abbrev pub shadow_ink : Rect → Float → Float → Color → Bool → ℕ → ℕ → ℕ → ℕ
shadow_ink rect r blur c skip = shade_ink (rounded_of rect r) blur c skip
