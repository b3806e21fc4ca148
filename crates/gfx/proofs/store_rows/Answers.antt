-- `gfx::store_rows` meets its contract. The rows before y are set. Assumes nothing.
use mathlib.Core.Path.{◌≡◌, refl, ap, ◌∙◌}
use Prim.Native.Nat.{◌+◌}
use native.Mathlib.Omega.{arith}
use lib.ListN.{length}
use Rattle.draw.specs.Areas.{area}
use Rattle.draw.proofs.Rows.{length_drawn, none_down, rows_join, room_of}
use Rattle.draw.proofs.Frame.{framed_area}
use Rattle.gfx.proofs.store_rows.Goals as goal

pub loop-y-init : goal.loop-y-init
loop-y-init c =
    let a = c.args in
    (omega arith, none_down _ (λ _ _ _. a.v) _ (area 0 0 a.w 0) (omega arith), refl)

pub store_row-requires : goal.store_row-requires
store_row-requires c =
    let l = c.before.before in
    let st = l.before.before in
    let f = st.requires.0 in
    record {
      order = omega arith;
      right = f.right;
      room = room_of st.args.pitch l.loop-y.y st.args.h _ c.loop-y-test.true (omega (arith, f.bottom, l.loop-y.invariant.2));
      wide = f.wide;
      high = omega (arith, f.high);
    }

pub overflow_step-y : goal.overflow_step-y
overflow_step-y c = omega arith

pub loop-y-smaller : goal.loop-y-smaller
loop-y-smaller c = omega arith

pub loop-y-preserved : goal.loop-y-preserved
loop-y-preserved c =
    let row = c.before.before in
    let l = row.before.before.before in
    let a = l.args in
    let i = l.loop-y.invariant in
    let y = l.loop-y.y in
    let e = row.store_row.ensures in
    (omega arith, e ∙ rw i.1 (rows_join a.pitch (λ _ _ _. a.v) a.px.now 0 a.w 0 y (y + 1) (omega arith) (omega arith)), ap length e ∙ length_drawn _ _ _ _ ∙ i.2)

pub shape_of-px : goal.shape_of-px
shape_of-px c = omega arith

pub returns : goal.returns
returns c =
    let l = c.before in
    let st = l.before.before in
    let a = st.args in
    let e : l.loop-y.y ≡ a.h = omega arith in
    rw e at l.loop-y.invariant.1 ∙ framed_area a.pitch a.w a.h a.v a.px.now st.requires.1
