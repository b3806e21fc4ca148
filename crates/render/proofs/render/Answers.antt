-- `render::render` meets its contract: what is drawn so far, drawn on, is the whole. Assumes nothing.
use Prim.Native.Nat.{◌≤◌}
use mathlib.Core.Path.{sym, ◌∙◌}
use native.Mathlib.Omega.{arith}
use Rattle.items.proofs.Turns.{turn, end}
use Rattle.render.proofs.Few.{item_few}
use Rattle.render.proofs.Turns.{run_shape, run_other, run_end}
use Rattle.render.proofs.render.Goals as goal

pub overflow_add-steps : goal.overflow_add-steps
overflow_add-steps c =
    let i = c.loop-b.invariant in
    let d = c.draw_item-steps in
    let most : d.result ≤ 536870912 = rw d.ensures.counts (item_few _ _) in
    omega (arith, most, i.0.fits, i.1.few, i.1.within)

pub loop-b-preserved-then-is_shape : goal.loop-b-preserved-then-is_shape
loop-b-preserved-then-is_shape c =
    let i = c.loop-b.invariant in
    let t = turn i.0 c.in-Some.b c.next.new.self c.in-Some.ensures.steps in
    let d = c.draw_item-steps in
    let shape = rw t.bytes at (sym c.is_shape.ensures ∙ c.if-is_shape.true) in
    (t.after, rw t.next (run_shape _ _ _ _ _ i.1 t.more shape (rw t.bytes at d.ensures) d.auto.px d.auto.scratch))

pub loop-b-preserved : goal.loop-b-preserved
loop-b-preserved c =
    let i = c.loop-b.invariant in
    let t = turn i.0 c.in-Some.b c.next.new.self c.in-Some.ensures.steps in
    let other = rw t.bytes at (sym c.is_shape.ensures ∙ c.if-is_shape.false) in
    (t.after, rw (t.next, c.state_after-state.ensures, t.bytes) (run_other _ _ _ _ _ i.1 t.more other))

pub returns : goal.returns
returns c =
    let i = c.loop-b.invariant in
    run_end _ _ _ _ _ i.1 (end i.0 c.next.new.self c.in-None.ensures.steps)
