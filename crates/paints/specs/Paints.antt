-- Paints, coverage and the distance to a rounded rectangle: formulas of gfx.rs, each f32 operation rounded once in the order
-- written.
use Rattle.std.specs.Prelude.{Bool, true, cond, ◌&&◌, ℕ, Float}
use Rattle.mathf.specs.F32.{◌+ᶠ◌, ◌-ᶠ◌, ◌*ᶠ◌, ◌/ᶠ◌, ◌<ᶠ◌, of_ℕᶠ, f0, f½, f2, f255, f1e_3}
use Rattle.mathf.specs.Order.{min_of, max_of, fabs_of, saturate_of}
use Rattle.mathf.specs.Convert.{to_u32}
use Rattle.mathf.specs.Root.{sqrt_of}
use Rattle.geom.specs.declared.Pt.{Pt}
use Rattle.geom.specs.declared.Rect.{Rect}
use Rattle.geom.specs.Plane.{rect_of, right_of, bottom_of, cx_of, cy_of, float_ok, pt_ok}
use Rattle.color.specs.declared.Color.{Color}
use Rattle.color.specs.Colours.{mix_of}
use Rattle.paints.specs.declared.Rounded.{Rounded}
use Rattle.paints.specs.declared.Paint.{Paint}
use Rattle.paints.specs.declared.Paint.TheVariants.{Solid, VGrad, Linear, Radial}

-- how far along a gradient the point x, y lies
unfoldable pub along_down : Float → Float → Float → Float
along_down y0 y1 y = (y -ᶠ y0) /ᶠ max_of (y1 -ᶠ y0) f1e_3

unfoldable pub along_line : Pt → Pt → Float → Float → Float
along_line p0 p1 x y =
    let dx = p1.x -ᶠ p0.x in
    let dy = p1.y -ᶠ p0.y in
    ((x -ᶠ p0.x) *ᶠ dx +ᶠ (y -ᶠ p0.y) *ᶠ dy) /ᶠ max_of (dx *ᶠ dx +ᶠ dy *ᶠ dy) f1e_3

unfoldable pub along_radius : Pt → Float → Float → Float → Float
along_radius c r x y =
    let dx = x -ᶠ c.x in
    let dy = y -ᶠ c.y in
    sqrt_of (dx *ᶠ dx +ᶠ dy *ᶠ dy) /ᶠ max_of r f1e_3

-- `Paint::at`: the colour of a paint at a point
unfoldable pub paint_at : Paint → Float → Float → Color
paint_at (Solid c) x y = c
paint_at (VGrad y0 y1 c0 c1) x y = mix_of c0 c1 (along_down y0 y1 y)
paint_at (Linear p0 p1 c0 c1) x y = mix_of c0 c1 (along_line p0 p1 x y)
paint_at (Radial c r c0 c1) x y = mix_of c0 c1 (along_radius c r x y)

-- the paint as the points of the row y have it: a vertical gradient has one colour there. No call cites it: `paint_at` gives the
-- same colours in the row (proofs/Colours, `row_colour`)
unfoldable pub row_paint : Paint → Float → Paint
row_paint (Solid c) y = Solid c
row_paint (VGrad y0 y1 c0 c1) y = Solid (mix_of c0 c1 (along_down y0 y1 y))
row_paint (Linear p0 p1 c0 c1) y = Linear p0 p1 c0 c1
row_paint (Radial c r c0 c1) y = Radial c r c0 c1

-- every float of a paint is finite and within 8,192 of 0
unfoldable pub paint_ok : Paint → Bool
paint_ok (Solid c) = true
paint_ok (VGrad y0 y1 c0 c1) = float_ok y0 && float_ok y1
paint_ok (Linear p0 p1 c0 c1) = pt_ok p0 && pt_ok p1
paint_ok (Radial c r c0 c1) = pt_ok c && float_ok r

-- the centre of column or row i, where a paint or a distance is sampled
abbrev pub centre_of : ℕ → Float
centre_of i = of_ℕᶠ i +ᶠ f½

-- the radius of a rectangle's corners: r, at most half of each side and at least 0
unfoldable pub radius_of : Rect → Float → Float
radius_of rect r = max_of (min_of (min_of r (rect.w *ᶠ f½)) (rect.h *ᶠ f½)) f0

-- `rrect_sd`: the signed distance of a point to a rounded rectangle, negative inside
unfoldable pub corner_sd : Float → Float → Float → Float
corner_sd qx qy r =
    cond ((f0 <ᶠ qx) && (f0 <ᶠ qy)) (sqrt_of (qx *ᶠ qx +ᶠ qy *ᶠ qy) -ᶠ r) (cond (qy <ᶠ qx) (qx -ᶠ r) (qy -ᶠ r))

unfoldable pub rrect_sd : Float → Float → Float → Float → Float → Float → Float → Float
rrect_sd px py cx cy hw hh r = corner_sd (fabs_of (px -ᶠ cx) -ᶠ (hw -ᶠ r)) (fabs_of (py -ᶠ cy) -ᶠ (hh -ᶠ r)) r

-- a rectangle with rounded corners, as the distance and the rows of a shape ask for it
abbrev pub rounded_of : Rect → Float → Rounded
rounded_of rect r =
    record {
      cx = cx_of rect;
      cy = cy_of rect;
      hw = rect.w *ᶠ f½;
      hh = rect.h *ᶠ f½;
      r = radius_of rect r;
      left = rect.x;
      right = right_of rect;
      top = rect.y;
      bottom = bottom_of rect;
    }

abbrev pub rounded_sd : Rounded → Float → Float → Float
rounded_sd s x y = rrect_sd x y s.cx s.cy s.hw s.hh s.r

-- the rectangle around a circle, as `fill_circle` and `ring` make it
abbrev pub circle_rect : Float → Float → Float → Rect
circle_rect cx cy r = rect_of (cx -ᶠ r) (cy -ᶠ r) (r *ᶠ f2) (r *ᶠ f2)

-- `cov8`: the coverage, 0 to 255, of a pixel whose centre lies at the signed distance d of an edge
unfoldable pub cov8_of : Float → ℕ
cov8_of d = to_u32 (saturate_of (f½ -ᶠ d) *ᶠ f255 +ᶠ f½)
