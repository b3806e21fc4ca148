-- `render::draw_poly` meets its contract. Assumes nothing.
use mathlib.Core.Path.{◌≡◌, refl, sym, ap, ◌∙◌}
use Prim.Native.Nat.{◌*◌, ◌≤◌}
use native.Mathlib.Omega.{arith}
use lib.ListN.{length, take}
use lib.Seq.{length-take-le}
use borrow.Author.Tests.{lt-leb, le-leb}
use Rattle.draw.proofs.Counts.{differ_same}
use Rattle.gfx.proofs.Steps.{steps_left}
use Rattle.items.proofs.PolyPoints.{coords_length, coords_take}
use Rattle.items.specs.Items.{coords_from}
use Rattle.render.specs.Stages.{poly_px, poly_scratch}
use Rattle.render.proofs.draw_poly.Goals.{After-coords-xs}
use Rattle.render.proofs.draw_poly.Goals as goal

pub returns-then-count-gt64 : goal.returns-then-count-gt64
unfolding poly_px poly_scratch
returns-then-count-gt64 c = simp (lt-leb _ _ c.if-count-gt64.true) (record { paints = refl; clears = refl; counts = sym (differ_same _) })

pub coords-xs-requires : goal.coords-xs-requires
coords-xs-requires c = tt

pub overflow_mul-xs : goal.overflow_mul-xs
overflow_mul-xs c = omega arith

some : (c : After-coords-xs) → 2 * c.args.count ≤ length c.coords-xs.result
some c = let n : length c.coords-xs.result ≡ 128 = ap length c.coords-xs.ensures ∙ coords_length _ 32 128 in omega arith

pub slice_bounds-xs-end : goal.slice_bounds-xs-end
slice_bounds-xs-end c = some (goal.at.slice_bounds-xs-end c).After-coords-xs

pub slice_bounds-fill_poly-end : goal.slice_bounds-fill_poly-end
slice_bounds-fill_poly-end c = sym (length-take-le _ _ (some (goal.at.slice_bounds-fill_poly-end c).After-coords-xs))

pub fill_poly-requires : goal.fill_poly-requires
fill_poly-requires c = tt

pub returns : goal.returns
unfolding poly_px poly_scratch
returns c =
    let f = c.fill_poly.ensures in
    let a = c.args in
    let few : a.count ≤ 64 = c.if-count-gt64.false in
    let short : 2 * a.count ≤ 128 = omega arith in
    let pts : take (2 * a.count) c.coords-xs.result ≡ coords_from a.b.now 32 (2 * a.count) =
    ap (take (2 * a.count)) c.coords-xs.ensures ∙ coords_take a.b.now 32 (2 * a.count) 128 short in
    rw (le-leb a.count 64 few, ← pts) (record { paints = f.called.called.paints; clears = f.clears; counts = steps_left f.called })
