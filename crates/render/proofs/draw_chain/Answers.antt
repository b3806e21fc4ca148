-- `render::draw_chain` meets its contract. Assumes nothing.
use mathlib.Core.Path.{◌≡◌, refl, sym, ap, ◌∙◌}
use Prim.Native.Nat.{◌*◌, ◌≤◌}
use native.Mathlib.Omega.{arith}
use lib.ListN.{length, take}
use lib.Seq.{length-take-le}
use borrow.Author.Tests.{lt-leb, le-leb}
use Rattle.items.proofs.PolyPoints.{coords_length, coords_take}
use Rattle.items.specs.Items.{coords_from}
use Rattle.render.specs.Stages.{chain_px, chain_steps}
use Rattle.render.proofs.draw_chain.Goals.{After-coords-xs}
use Rattle.render.proofs.draw_chain.Goals as goal

pub returns-then-count-gt64 : goal.returns-then-count-gt64
unfolding chain_px chain_steps
returns-then-count-gt64 c = simp (lt-leb _ _ c.if-count-gt64.true) (refl, refl)

pub coords-xs-requires : goal.coords-xs-requires
coords-xs-requires c = tt

pub overflow_mul-xs : goal.overflow_mul-xs
overflow_mul-xs c = omega arith

some : (c : After-coords-xs) → 2 * c.args.count ≤ length c.coords-xs.result
some c = let n : length c.coords-xs.result ≡ 128 = ap length c.coords-xs.ensures ∙ coords_length _ 12 128 in omega arith

pub slice_bounds-xs-end : goal.slice_bounds-xs-end
slice_bounds-xs-end c = some (goal.at.slice_bounds-xs-end c).After-coords-xs

pub slice_bounds-polyline-end : goal.slice_bounds-polyline-end
slice_bounds-polyline-end c = sym (length-take-le _ _ (some (goal.at.slice_bounds-polyline-end c).After-coords-xs))

pub polyline-requires : goal.polyline-requires
polyline-requires c = tt

pub returns : goal.returns
unfolding chain_px chain_steps
returns c =
    let f = c.polyline.ensures in
    let a = c.args in
    let few : a.count ≤ 64 = c.if-count-gt64.false in
    let short : 2 * a.count ≤ 128 = omega arith in
    let pts : take (2 * a.count) c.coords-xs.result ≡ coords_from a.b.now 12 (2 * a.count) =
    ap (take (2 * a.count)) c.coords-xs.ensures ∙ coords_take a.b.now 12 (2 * a.count) 128 short in
    rw (le-leb a.count 64 few, ← pts) (f.called.paints, f.counts)
