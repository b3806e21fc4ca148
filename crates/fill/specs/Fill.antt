-- Filled rounded rectangles (gfx.rs, `fill_rrect`): the reach, and the ink as a function of one pixel. Every f32 operation is
-- rounded once, in the order written.
use Rattle.std.specs.Prelude.{Bool, cond, not, ◌&&◌, ◌||◌, List, ℕ, Float, length}
use Rattle.mathf.specs.F32.{◌+ᶠ◌, ◌-ᶠ◌, ◌*ᶠ◌, ◌<ᶠ◌, f0, f½, f1}
use Rattle.mathf.specs.Whole.{floor_of, ceil_of}
use Rattle.mathf.specs.Convert.{to_i32}
use Rattle.geom.specs.declared.Rect.{Rect}
use Rattle.geom.specs.declared.IRect.{IRect}
use Rattle.geom.specs.Box.{no_box}
use Rattle.geom.specs.Plane.{right_of, bottom_of, cx_of, cy_of, no_area, outer_of, float_ok, rect_ok}
use Rattle.color.specs.Inks.{over, over_c}
use Rattle.draw.specs.Draw.{drawn, in_columns}
use Rattle.gfx.specs.declared.Canvas.{Canvas}
use Rattle.gfx.specs.declared.Counted.{Counted}
use Rattle.paints.specs.declared.Paint.{Paint}
use Rattle.gfx.specs.Calls.{ShapeCalled, shape_number}
use Rattle.paints.specs.Paints.{paint_at, paint_ok, centre_of, radius_of, rrect_sd, cov8_of}

-- the pixels around the rectangle; none where it has no width or no height, as the method then returns before it meets the clip
unfoldable pub fill_reach : Rect → IRect
fill_reach rect = cond (no_area rect) no_box (outer_of rect)

-- ---- the row whose centre is yc, of a rectangle whose corners have the radius r

-- `edge_row`: less than 1 below the top or above the bottom
abbrev pub edge_row : Rect → Float → Bool
edge_row rect yc = (yc <ᶠ rect.y +ᶠ f1) || (bottom_of rect -ᶠ f1 <ᶠ yc)

-- `corner_row`: beside a round corner
abbrev pub corner_row : Rect → Float → Float → Bool
corner_row rect r yc = (f0 <ᶠ r) && ((yc <ᶠ rect.y +ᶠ r) || (bottom_of rect -ᶠ r <ᶠ yc))

-- `le`, where the left rim ends, and `rs`, where the right rim starts: in a corner row, and in any other
abbrev pub le_of : Bool → Rect → Float → Float
le_of corner rect r = cond corner (ceil_of (rect.x +ᶠ r)) (ceil_of rect.x +ᶠ f1)

abbrev pub rs_of : Bool → Rect → Float → Float
rs_of corner rect r = cond corner (floor_of (right_of rect -ᶠ r)) (floor_of (right_of rect) -ᶠ f1)

-- ---- the pixel in column x and row y

-- between the rims, of a row that is no edge row. The Rust brings `le` to the row's columns under the clip, and `rs` to those
-- from there on, before it uses them; left out here, as it changes no pixel (draw proofs/Clamps, `clamped_columns`)
unfoldable pub middle : Rect → Float → ℕ → ℕ → Bool
middle rect r x y =
    let yc = centre_of y in
    let corner = corner_row rect r yc in
    not (edge_row rect yc) && in_columns (to_i32 (le_of corner rect r)) (to_i32 (rs_of corner rect r)) x

-- the coverage of a point by its distance to the outline
unfoldable pub cover_of : Rect → Float → Float → Float → ℕ
cover_of rect r xc yc = cov8_of (rrect_sd xc yc (cx_of rect) (cy_of rect) (rect.w *ᶠ f½) (rect.h *ᶠ f½) r)

-- the paint at the pixel's centre, by coverage at the rim and at its own alpha in the middle
unfoldable pub rim_ink : Rect → Float → Paint → ℕ → ℕ → ℕ → ℕ
rim_ink rect r paint x y p = over_c p (paint_at paint (centre_of x) (centre_of y)) (cover_of rect r (centre_of x) (centre_of y))

unfoldable pub middle_ink : Paint → ℕ → ℕ → ℕ → ℕ
middle_ink paint x y p = let c = paint_at paint (centre_of x) (centre_of y) in over p c c.a

-- one or the other; a call has its radius cut to the sides first
unfoldable pub round_ink : Rect → Float → Paint → ℕ → ℕ → ℕ → ℕ
round_ink rect r paint x y p = cond (middle rect r x y) (middle_ink paint x y p) (rim_ink rect r paint x y p)

abbrev pub fill_ink : Rect → Float → Paint → ℕ → ℕ → ℕ → ℕ
fill_ink rect r paint = round_ink rect (radius_of rect r) paint

-- ---- the calls

-- what a fill promises, by whether the floats given are within the limit: of the canvas, the rectangle, its radius and its paint,
-- px as it came, the answer, and px as it is left
abbrev pub Filled : Canvas → Bool → Rect → Float → Paint → List ℕ → Counted → List ℕ → Type 0
Filled canvas ok rect r paint px =
    ShapeCalled (shape_number canvas (length px) ok) canvas px
    (drawn canvas.pitch canvas.clip (fill_reach rect) (fill_ink rect r paint) px)

-- the limit reads the numbers given to each call
abbrev pub rrect_floats : Rect → Float → Paint → Bool
rrect_floats rect r paint = rect_ok rect && float_ok r && paint_ok paint

abbrev pub rect_floats : Rect → Paint → Bool
rect_floats rect paint = rect_ok rect && paint_ok paint

abbrev pub circle_floats : Float → Float → Float → Paint → Bool
circle_floats cx cy r paint = float_ok cx && float_ok cy && float_ok r && paint_ok paint
