-- Points and rectangles of the plane: each number is one f32 operation after another, in the order of the Rust. Assumes nothing.
use Rattle.std.specs.Prelude.{Bool, ◌&&◌, ◌||◌, Float}
use Rattle.mathf.specs.F32.{◌+ᶠ◌, ◌-ᶠ◌, ◌*ᶠ◌, ◌≤ᶠ◌, f0, f½, f2, limit, -limit}
use Rattle.mathf.specs.Order.{min_of, max_of}
use Rattle.mathf.specs.Whole.{floor_of, ceil_of}
use Rattle.mathf.specs.Convert.{to_i32}
use Rattle.geom.specs.declared.Pt.{Pt}
use Rattle.geom.specs.declared.Rect.{Rect}
use Rattle.geom.specs.declared.IRect.{IRect}
use Rattle.geom.specs.Box.{box_of}

abbrev pub pt_of : Float → Float → Pt
pt_of x y = record { x = x; y = y }

abbrev pub rect_of : Float → Float → Float → Float → Rect
rect_of x y w h = record { x = x; y = y; w = w; h = h }

abbrev pub right_of : Rect → Float
right_of r = r.x +ᶠ r.w

abbrev pub bottom_of : Rect → Float
bottom_of r = r.y +ᶠ r.h

abbrev pub cx_of : Rect → Float
cx_of r = r.x +ᶠ r.w *ᶠ f½

abbrev pub cy_of : Rect → Float
cy_of r = r.y +ᶠ r.h *ᶠ f½

-- each side moved in by d, never to a negative width or height
abbrev pub inset_of : Rect → Float → Rect
inset_of r d = rect_of (r.x +ᶠ d) (r.y +ᶠ d) (max_of (r.w -ᶠ f2 *ᶠ d) f0) (max_of (r.h -ᶠ f2 *ᶠ d) f0)

abbrev pub offset_of : Rect → Float → Float → Rect
offset_of r dx dy = rect_of (r.x +ᶠ dx) (r.y +ᶠ dy) r.w r.h

unfoldable pub intersect_of : Rect → Rect → Rect
intersect_of a b =
    let x0 = max_of a.x b.x in
    let y0 = max_of a.y b.y in
    let x1 = min_of (right_of a) (right_of b) in
    let y1 = min_of (bottom_of a) (bottom_of b) in
    rect_of x0 y0 (max_of (x1 -ᶠ x0) f0) (max_of (y1 -ᶠ y0) f0)

unfoldable pub union_of : Rect → Rect → Rect
union_of a b =
    let x0 = min_of a.x b.x in
    let y0 = min_of a.y b.y in
    let x1 = max_of (right_of a) (right_of b) in
    let y1 = max_of (bottom_of a) (bottom_of b) in
    rect_of x0 y0 (x1 -ᶠ x0) (y1 -ᶠ y0)

-- `Rect::is_empty`
unfoldable pub no_area : Rect → Bool
no_area r = (r.w ≤ᶠ f0) || (r.h ≤ᶠ f0)

-- `from_rect_outer`: floors of x and y, ceilings of right and bottom, each cut to i32
unfoldable pub outer_of : Rect → IRect
outer_of r =
    box_of
    (to_i32 (floor_of r.x))
    (to_i32 (floor_of r.y))
    (to_i32 (ceil_of (right_of r)))
    (to_i32 (ceil_of (bottom_of r)))

-- finite and -8,192 to 8,192, as every f32 given to a shape or clip call is
unfoldable pub float_ok : Float → Bool
float_ok x = (-limit ≤ᶠ x) && (x ≤ᶠ limit)

unfoldable pub pt_ok : Pt → Bool
pt_ok p = float_ok p.x && float_ok p.y

unfoldable pub rect_ok : Rect → Bool
rect_ok r = float_ok r.x && float_ok r.y && float_ok r.w && float_ok r.h
