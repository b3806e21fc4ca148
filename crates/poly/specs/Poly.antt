-- `fill_poly`: a polygon's reach, its accumulator and what it leaves in a pixel and in the scratch, bit for bit. The points are a
-- list of coordinates x y x y. Assumes nothing.
use Rattle.std.specs.Prelude.{Bool, cond, ◌&&◌, List, ◌++◌, ◌≡◌, ℕ, zero, suc, ◌+◌, ◌*◌, ◌%◌, leb, eqb, ℤ, pos, ◌-ℤ◌, get_or, replicate, drop, Float}
use Rattle.std.specs.Float.{nan}
use Rattle.mathf.specs.F32.{◌+ᶠ◌, ◌-ᶠ◌, ◌*ᶠ◌, of_zᶠ, f0, f½, f255}
use Rattle.mathf.specs.Order.{fabs_of, saturate_of}
use Rattle.mathf.specs.Convert.{to_u32}
use Rattle.geom.specs.Int.{up}
use Rattle.geom.specs.Box.{no_box}
use Rattle.geom.specs.Plane.{pt_of}
use Rattle.geom.specs.declared.Pt.{Pt}
use Rattle.geom.specs.declared.IRect.{IRect}
use Rattle.color.specs.Inks.{over_c}
use Rattle.draw.specs.Draw.{drawn}
use Rattle.gfx.specs.Calls.{unless, and_then, ShapeCalled}
use Rattle.gfx.specs.Points.{points_ok, coords_ok, points_number}
use Rattle.paints.specs.Paints.{paint_at, paint_ok, centre_of}
use Rattle.gfx.specs.declared.Canvas.{Canvas}
use Rattle.gfx.specs.declared.Counted.{Counted}
use Rattle.paints.specs.declared.Paint.{Paint}
use Rattle.accum.specs.Lines.{line_accum}
use Rattle.bounds.specs.Bounds.{point_count, point_at, poly_box, painted, reach_of, need_of}
use Rattle.bounds.specs.declared.PolyBox.{PolyBox}

-- ---- the reach

unfoldable pub poly_reach : List Float → IRect
poly_reach pts = cond (painted pts) (reach_of (poly_box pts)) no_box

-- ---- the accumulator

unfoldable pub poly_need : List Float → ℕ
poly_need pts = cond (painted pts) (need_of (poly_box pts)) 0

-- point i from the box's corner
unfoldable pub point_from : List Float → PolyBox → ℕ → Pt
point_from pts g i = pt_of ((point_at pts i).x -ᶠ of_zᶠ g.ox) ((point_at pts i).y -ᶠ of_zᶠ g.oy)

-- the first n edges: edge i goes from point i to the next, the last one to point 0
unfoldable pub edges_accum : List Float → List Float → PolyBox → ℕ → List Float
edges_accum a pts g zero = a
edges_accum a pts g (suc i) =
    line_accum (edges_accum a pts g i) g.bw g.bh (point_from pts g i) (point_from pts g ((i + 1) % point_count pts))

-- every edge, from words that are all +0
unfoldable pub accumulated : List Float → PolyBox → List Float
accumulated pts g = edges_accum (replicate (need_of g) f0) pts g (point_count pts)

-- ---- the pixels

-- the sum of the n words from i, one after the other from +0
unfoldable pub run_sum : List Float → ℕ → ℕ → Float
run_sum acc i zero = f0
run_sum acc i (suc n) = run_sum acc i n +ᶠ get_or acc (i + n) nan

-- where column x or row y of the canvas lies in the box, whose first is the origin
abbrev pub offset_of : ℕ → ℤ → ℕ
offset_of x origin = up (pos x -ℤ origin)

-- the signed area at a pixel: the running sum of its row, from the box's first column up to the pixel's
unfoldable pub area_at : List Float → PolyBox → ℕ → ℕ → Float
area_at acc g x y = run_sum acc (offset_of y g.oy * (g.bw + 2)) (offset_of x g.ox + 1)

-- cv: a signed area as a coverage, 0 to 255
unfoldable pub cover_of : Float → ℕ
cover_of a = to_u32 (saturate_of (fabs_of a) *ᶠ f255 +ᶠ f½)

-- a pixel by an accumulator and its box
unfoldable pub ink_in : List Float → PolyBox → Paint → ℕ → ℕ → ℕ → ℕ
ink_in acc g paint x y p = over_c p (paint_at paint (centre_of x) (centre_of y)) (cover_of (area_at acc g x y))

abbrev pub poly_ink : List Float → Paint → ℕ → ℕ → ℕ → ℕ
poly_ink pts paint = ink_in (accumulated pts (poly_box pts)) (poly_box pts) paint

-- ---- the call

-- the scratch after an accepted call that needs so many words: those are +0, later ones as they came
unfoldable pub cleared : ℕ → List Float → List Float
cleared need scratch = replicate need f0 ++ drop need scratch

-- 12, 15, 8, 13, 6, then 9 for a scratch below need
unfoldable pub poly_number : Canvas → ℕ → List Float → Paint → ℕ → ℕ
poly_number c n pts paint words = and_then (points_number c n pts (paint_ok paint)) (unless (leb (poly_need pts) words) 9 0)

-- what `fill_poly` promises of number, state, px and the count of its steps, and of the scratch, which a refused call leaves
pub record Filled (n : ℕ) (c : Canvas) (px : List ℕ) (pts : List Float) (paint : Paint) (scratch : List Float) (r : Counted)
    (px' : List ℕ) (scratch' : List Float) : Type 0 where
  pub called : ShapeCalled n c px (drawn c.pitch c.clip (poly_reach pts) (poly_ink pts paint) px) r px'
  pub clears : scratch' ≡ cond (eqb n 0) (cleared (poly_need pts) scratch) scratch

-- ---- reach and need of any points

-- what the calls accept of points: the tests of 13 and 6
unfoldable pub poly_ok : List Float → Bool
poly_ok pts = points_ok pts && coords_ok pts

unfoldable pub need_in : List Float → ℕ
need_in pts = cond (poly_ok pts) (poly_need pts) 0

unfoldable pub reach_in : List Float → IRect
reach_in pts = cond (poly_ok pts) (poly_reach pts) no_box
