-- `accum_line`: one edge of a polygon in the accumulator, row by row, bit for bit. The box is bw by bh; its rows are bw + 2 words
-- apart, the Rust's stride, and bw as a float is the Rust's maxx. Assumes nothing.
use Rattle.std.specs.Prelude.{cond, List, ℕ, zero, suc, ◌+◌, ◌-◌, ◌*◌, min, Float}
use Rattle.std.specs.Float.Ieee.{eq, neg}
use Rattle.mathf.specs.F32.{◌+ᶠ◌, ◌-ᶠ◌, ◌*ᶠ◌, ◌/ᶠ◌, ◌<ᶠ◌, of_ℕᶠ, f0, f1}
use Rattle.mathf.specs.Order.{clamp_of, min_of, max_of}
use Rattle.mathf.specs.Whole.{floor_of, ceil_of}
use Rattle.mathf.specs.Convert.{to_i32, to_usize}
use Rattle.geom.specs.declared.Pt.{Pt}
use Rattle.accum.specs.Accum.{row_accum}
use Rattle.accum.specs.declared.edge.Edge.{Edge}

-- row y, which an edge enters at x and leaves at xnext. d is the row's signed height
unfoldable pub row_between : List Float → ℕ → ℕ → Float → Float → Float → List Float
row_between a bw y x xnext d =
    let xa = clamp_of (cond (x <ᶠ xnext) x xnext) f0 (of_ℕᶠ bw) in
    let xb = clamp_of (cond (x <ᶠ xnext) xnext x) f0 (of_ℕᶠ bw) in
    row_accum a (y * (bw + 2)) d xa xb (floor_of xa) (ceil_of xb) (to_i32 (floor_of xa)) (to_i32 (ceil_of xb))

-- dy: how much of row y the edge crosses
unfoldable pub row_height : Edge → ℕ → Float
row_height e y = min_of (of_ℕᶠ (y + 1)) e.bottom -ᶠ max_of (of_ℕᶠ y) e.top

-- xnext: where the edge, which enters row y at x, leaves it
unfoldable pub row_next : Edge → ℕ → Float → Float
row_next e y x = x +ᶠ e.dxdy *ᶠ row_height e y

-- where the edge is after n rows from row y
unfoldable pub edge_x : Edge → ℕ → ℕ → Float
edge_x e y zero = e.x
edge_x e y (suc n) = row_next e (y + n) (edge_x e y n)

-- row y of the edge, which enters it at x
unfoldable pub edge_row : List Float → ℕ → Edge → ℕ → Float → List Float
edge_row a bw e y x = row_between a bw y x (row_next e y x) (row_height e y *ᶠ e.dir)

-- the n rows from row y of the edge
unfoldable pub edge_rows : List Float → ℕ → Edge → ℕ → ℕ → List Float
edge_rows a bw e y zero = a
edge_rows a bw e y (suc n) = edge_row (edge_rows a bw e y n) bw e (y + n) (edge_x e y n)

-- where an edge down from p0 is where its first row begins: above row 0 it is cut off
unfoldable pub start_x : Pt → Float → Float
start_x p0 dxdy = cond (p0.y <ᶠ f0) (p0.x -ᶠ p0.y *ᶠ dxdy) p0.x

-- the edge from p0 down to p1
unfoldable pub edge_down : Float → Pt → Pt → Edge
edge_down dir p0 p1 =
    let dxdy = (p1.x -ᶠ p0.x) /ᶠ (p1.y -ᶠ p0.y) in
    record { x = start_x p0 dxdy; top = p0.y; bottom = p1.y; dxdy = dxdy; dir = dir }

-- the edge between two points, turned downwards: dir is 1 where it ran down, and -1 where it ran up
unfoldable pub edge_of : Pt → Pt → Edge
edge_of p0 p1 = cond (p0.y <ᶠ p1.y) (edge_down f1 p0 p1) (edge_down (neg f1) p1 p0)

-- y0 and yend: the first row of an edge, and the row past its last
unfoldable pub first_row : Edge → ℕ
first_row e = cond (e.top <ᶠ f0) 0 (to_usize e.top)

unfoldable pub end_row : Edge → ℕ → ℕ
end_row e bh = min bh (to_usize (ceil_of e.bottom))

-- the whole edge
unfoldable pub line_accum : List Float → ℕ → ℕ → Pt → Pt → List Float
line_accum a bw bh p0 p1 =
    let e = edge_of p0 p1 in
    cond (eq p0.y p1.y) a (edge_rows a bw e (first_row e) (end_row e bh - first_row e))
