-- The box of a polygon: its points, the box around them, whether it is painted, and the words of its accumulator, bit for bit.
-- The points are a list of coordinates x y x y. Assumes nothing.
use Rattle.std.specs.Prelude.{Bool, ◌&&◌, List, ℕ, zero, suc, ◌+◌, ◌*◌, ◌/◌, leb, ℤ, pos, ◌+ℤ◌, ◌-ℤ◌, length, get_or, Float}
use Rattle.std.specs.Float.{nan, binary32}
use Rattle.std.specs.Float.Ieee.{of_bits, neg}
use Rattle.mathf.specs.Order.{min_of, max_of}
use Rattle.mathf.specs.Whole.{floor_of, ceil_of}
use Rattle.mathf.specs.Convert.{to_i32}
use Rattle.geom.specs.Int.{up}
use Rattle.geom.specs.Box.{box_of}
use Rattle.geom.specs.Plane.{pt_of}
use Rattle.geom.specs.declared.Pt.{Pt}
use Rattle.geom.specs.declared.IRect.{IRect}
use Rattle.bounds.specs.declared.Extent.{Extent}
use Rattle.bounds.specs.declared.PolyBox.{PolyBox}

-- ---- points

abbrev pub point_count : List Float → ℕ
point_count pts = length pts / 2

abbrev pub point_at : List Float → ℕ → Pt
point_at pts i = pt_of (get_or pts (i * 2) nan) (get_or pts (i * 2 + 1) nan)

-- ---- the box

-- f32::MAX; f32::MIN is its negative
abbrev pub f_max : Float
f_max = of_bits binary32 0x7f7f_ffff

abbrev pub widened : Extent → Pt → Extent
widened e p = record {
  minx = min_of e.minx p.x;
  miny = min_of e.miny p.y;
  maxx = max_of e.maxx p.x;
  maxy = max_of e.maxy p.y;
}

-- minx, miny, maxx and maxy over the first n points
unfoldable pub extent_of : List Float → ℕ → Extent
extent_of pts zero = record { minx = f_max; miny = f_max; maxx = neg f_max; maxy = neg f_max }
extent_of pts (suc n) = widened (extent_of pts n) (point_at pts n)

-- ox or oy, by minx or miny
unfoldable pub origin_of : Float → ℤ
origin_of least = to_i32 (floor_of least) -ℤ pos 1

-- bw or bh, by maxx or maxy and by ox or oy
unfoldable pub span_of : Float → ℤ → ℕ
span_of most origin = up (to_i32 (ceil_of most) +ℤ pos 1 -ℤ origin)

unfoldable pub poly_box : List Float → PolyBox
poly_box pts =
    let e = extent_of pts (point_count pts) in
    let ox = origin_of e.minx in
    let oy = origin_of e.miny in
    record { ox = ox; oy = oy; bw = span_of e.maxx ox; bh = span_of e.maxy oy }

-- nothing is painted under 3 points or where bw × bh exceeds 4,000,000; bw and bh are never 0 (`sides_some`)
unfoldable pub painted : List Float → Bool
painted pts = leb 3 (point_count pts) && leb ((poly_box pts).bw * (poly_box pts).bh) 4000000

abbrev pub reach_of : PolyBox → IRect
reach_of g = box_of g.ox g.oy (g.ox +ℤ pos g.bw) (g.oy +ℤ pos g.bh)

-- ---- the accumulator

-- its words: rows of bw + 2, and two more
abbrev pub need_of : PolyBox → ℕ
need_of g = (g.bw + 2) * g.bh + 2
