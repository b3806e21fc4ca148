-- The outline of a rounded rectangle: `stroke_rrect` of gfx.rs, for one pixel. Each f32 operation is rounded once, in the order
-- written.
use Rattle.std.specs.Prelude.{Bool, cond, ◌&&◌, ◌||◌, not, ℕ, eqb, ℤ, Float}
use Rattle.mathf.specs.F32.{◌+ᶠ◌, ◌-ᶠ◌, ◌*ᶠ◌, ◌<ᶠ◌, f0, f½, f1, f255}
use Rattle.mathf.specs.Order.{saturate_of}
use Rattle.mathf.specs.Whole.{floor_of, ceil_of}
use Rattle.mathf.specs.Convert.{to_u32, to_i32}
use Rattle.geom.specs.declared.IRect.{IRect}
use Rattle.geom.specs.declared.Rect.{Rect}
use Rattle.geom.specs.Box.{no_box}
use Rattle.geom.specs.Plane.{no_area, outer_of, float_ok, rect_ok}
use Rattle.color.specs.declared.Color.{Color}
use Rattle.color.specs.Inks.{over_c}
use Rattle.draw.specs.Draw.{in_columns}
use Rattle.paints.specs.declared.Rounded.{Rounded}
use Rattle.paints.specs.Paints.{centre_of, rounded_of, rounded_sd}

-- the floats given are finite and within 8,192 of 0
abbrev pub stroke_ok : Rect → Float → Float → Bool
stroke_ok rect r width = rect_ok rect && (float_ok r && float_ok width)

-- the reach: nothing where the rectangle has no width or no height, or the colour no alpha
unfoldable pub stroke_reach : Rect → Color → IRect
stroke_reach rect c = cond (no_area rect || eqb c.a 0) no_box (outer_of rect)

-- the coverage of a band of the width inside the edge, at a signed distance d from it
unfoldable pub band_cover : Float → Float → ℕ
band_cover d width =
    let c_out = saturate_of (f½ -ᶠ d) in
    let c-in = saturate_of (f½ -ᶠ (d +ᶠ width)) in
    to_u32 ((c_out *ᶠ (f1 -ᶠ c-in)) *ᶠ f255 +ᶠ f½)

-- `full_row` and `corner_row`, of the row whose centre is yc
abbrev pub full_row : Rounded → Float → Float → Bool
full_row s band yc = (yc <ᶠ s.top +ᶠ band) || (s.bottom -ᶠ band <ᶠ yc)

abbrev pub corner_row : Rounded → Float → Bool
corner_row s yc = (f0 <ᶠ s.r) && ((yc <ᶠ s.top +ᶠ s.r +ᶠ f1) || (s.bottom -ᶠ s.r -ᶠ f1 <ᶠ yc))

-- `wdt`: how far the two sides reach in, in a row that is not full
unfoldable pub side_width : Rounded → Float → Float → Float
side_width s width yc = cond (corner_row s yc) (s.r +ᶠ f1) (width +ᶠ f1)

-- the columns between the two ranges, which are left. The Rust brings the end of the first range to the row's columns under the
-- clip, and the start of the second to those from there on; left out here, as it changes no pixel (draw proofs/Clamps,
-- `clamped_columns`)
unfoldable pub gap_from : Rounded → Float → Float → ℤ
gap_from s width yc = to_i32 (ceil_of (s.left +ᶠ side_width s width yc))

unfoldable pub gap_upto : Rounded → Float → Float → ℤ
gap_upto s width yc = to_i32 (floor_of (s.right -ᶠ side_width s width yc))

unfoldable pub in_gap : Rounded → Float → Float → ℕ → Bool
in_gap s width yc x = not (full_row s (width +ᶠ f1) yc) && in_columns (gap_from s width yc) (gap_upto s width yc) x

-- the new value of a pixel: blended by distance, but in the gap
unfoldable pub band_ink : Rounded → Float → Color → ℕ → ℕ → ℕ → ℕ
band_ink s width c x y p = over_c p c (band_cover (rounded_sd s (centre_of x) (centre_of y)) width)

unfoldable pub outline_ink : Rounded → Float → Color → ℕ → ℕ → ℕ → ℕ
outline_ink s width c x y p = cond (in_gap s width (centre_of y) x) p (band_ink s width c x y p)

abbrev pub stroke_ink : Rect → Float → Float → Color → ℕ → ℕ → ℕ → ℕ
stroke_ink rect r width c = outline_ink (rounded_of rect r) width c

-- `ring`: the limit reads the numbers given, not the rectangle that they make
abbrev pub ring_ok : Float → Float → Float → Float → Bool
ring_ok cx cy r width = (float_ok cx && float_ok cy) && (float_ok r && float_ok width)
