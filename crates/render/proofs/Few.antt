-- How many steps an item can take, for any bytes and any state: a refused call takes none, and an accepted one has at most 8,388,608 words, of
-- which a chain takes 63 steps each. Assumes nothing.
use Prim.Native.Nat.{ℕ, zero, suc, ◌+◌, ◌-◌, ◌/◌, ◌≤◌}
use mathlib.Core.Path.{◌≡◌, refl, ap}
use mathlib.Core.Bool.{Bool, true, false, cond}
use mathlib.Core.List.{List}
use native.Mathlib.Nat.{mul-le-mul}
use native.Mathlib.Omega.{arith}
use borrow.Author.Tests.{eqb-true}
use lib.Dec.{leb, eqb}
use lib.Ieee.{Float}
use lib.ListN.{length}
use Rattle.geom.specs.Plane.{float_ok}
use Rattle.geom.specs.declared.IRect.{IRect}
use Rattle.color.specs.declared.Color.{Color}
use Rattle.draw.specs.Draw.{differ}
use Rattle.draw.proofs.Counts.{differ_same}
use Rattle.draw.proofs.Parts.{alters_most}
use Rattle.draw.specs.Parts.{alters_all}
use Rattle.geom.proofs.Bools.{split}
use Rattle.geom.proofs.Refusals.{then_open}
use Rattle.gfx.specs.Calls.{shape_number}
use Rattle.gfx.specs.Points.{points_number}
use Rattle.gfx.specs.declared.Canvas.{Canvas}
use Rattle.gfx.proofs.Sizes.{Open, shape_open, open_small}
use Rattle.gfx.proofs.Coords.{points_open, points_few}
use Rattle.gfx.proofs.Steps.{few_left}
use Rattle.paints.specs.Paints.{paint_ok}
use Rattle.paints.specs.declared.Paint.{Paint}
use Rattle.line.specs.Polylines.{lines_from, chain_of, polyline_steps}
use Rattle.poly.specs.Poly.{poly_number}
use Rattle.items.specs.Items.{item_of, points_of, joints_of}
use Rattle.items.specs.declared.Item.{Item}
use Rattle.items.specs.declared.Item.TheVariants.{Push, Pop, Fill, Stroke, Line, Poly, Shadow, Chain, Unknown}
use Rattle.render.specs.Stages.{Stage, called, chain_steps, poly_px, shape_px, shape_steps, item_steps}

shape_few : (c : Canvas) (ok : Bool) (reach : IRect) (ink : ℕ → ℕ → ℕ → ℕ) (px : List ℕ) → differ px (called c ok reach ink px) ≤ 8388608
shape_few c ok reach ink px = few_left (shape_number c (length px) ok) c px _ (shape_open c (length px) ok)

poly_open : (c : Canvas) (n : ℕ) (pts : List Float) (paint : Paint) (words : ℕ) → poly_number c n pts paint words ≡ 0 → Open c n
unfolding poly_number
poly_open c n pts paint words e = (points_open c n pts (paint_ok paint) (then_open (points_number c n pts (paint_ok paint)) _ e).0).canvas

poly_few : (b : List ℕ) (count : ℕ) (paint : Paint) (c : Canvas) (px : List ℕ) (words : ℕ) → differ px (poly_px b count paint c px words) ≤ 8388608
unfolding poly_px
poly_few b count paint c px words =
    choice (leb count 64) _ (few_left (poly_number c (length px) pts paint words) c px _ (poly_open c (length px) pts paint words))
  where
    pts : List Float
    pts = points_of b count

    choice : (t : Bool) (qx : List ℕ) → differ px qx ≤ 8388608 → differ px (cond t qx px) ≤ 8388608
    choice true qx h = h
    choice false qx h = omega (arith, differ_same px)

-- ---- a chain

lines_length : (pts : List Float) (width : Float) (color : Color) (n i : ℕ) → length (lines_from pts width color n i) ≡ n
unfolding lines_from
lines_length pts width color zero i = refl
lines_length pts width color (suc n) i = ap suc (lines_length pts width color n (i + 1))

chain_few : (b : List ℕ) (count : ℕ) (width : Float) (color : Color) (c : Canvas) (px : List ℕ) → chain_steps b count width color c px ≤ 536870912
unfolding chain_steps polyline_steps
chain_few b count width color c px =
    split (leb count 64) (λ t. cond t (cond (eqb number 0) steps 0) 0 ≤ 536870912)
    (λ _. split (eqb number 0) (λ t. cond t steps 0 ≤ 536870912) (λ e. accepted (eqb-true number 0 e)) (λ _. omega arith))
    (λ _. omega arith)
  where
    pts : List Float
    pts = joints_of b count

    number : ℕ
    number = points_number c (length px) pts (float_ok width)

    steps : ℕ
    steps = alters_all c.pitch c.clip (chain_of pts width color) px

    accepted : number ≡ 0 → steps ≤ 536870912
    accepted e =
        let o = points_open c (length px) pts (float_ok width) e in
        let short = points_few pts o.points in
        let lines : length (chain_of pts width color) ≤ 63 = rw (lines_length pts width color (length pts / 2 - 1) 0) (omega (arith, short)) in
        let most = mul-le-mul lines (open_small o.canvas) in
        omega (arith, alters_most c.pitch c.clip (chain_of pts width color) px, most)

-- ---- any item

more : {n : ℕ} → n ≤ 8388608 → n ≤ 536870912
more h = omega arith

shape_steps_lem : (b : List ℕ) (i : Item) (c : Canvas) (px : List ℕ) (words : ℕ) → shape_steps b i c px words ≤ 536870912
unfolding shape_steps shape_px
shape_steps_lem b (Push rect) c px words = omega arith
shape_steps_lem b Pop c px words = omega arith
shape_steps_lem b (Fill rect r paint) c px words = more (shape_few c _ _ _ px)
shape_steps_lem b (Stroke rect r width color) c px words = more (shape_few c _ _ _ px)
shape_steps_lem b (Line p q width color) c px words = more (shape_few c _ _ _ px)
shape_steps_lem b (Poly paint count) c px words = more (poly_few b count paint c px words)
shape_steps_lem b (Shadow rect r blur color skip) c px words = more (shape_few c _ _ _ px)
shape_steps_lem b (Chain width color count) c px words = chain_few b count width color c px
shape_steps_lem b Unknown c px words = omega arith

pub item_few : (b : List ℕ) (s : Stage) → item_steps b s ≤ 536870912
unfolding item_steps
item_few b s = shape_steps_lem b (item_of b) s.canvas s.px (length s.scratch)
