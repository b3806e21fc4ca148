-- `measure::walk` meets its contract. What was taken so far, with what the items that are left take, is what the sheet takes. Assumes nothing.
use Rattle.std.proofs.Common.{rules}
use mathlib.Core.Path.{refl, sym, ap, ◌∙◌}
use native.Mathlib.Omega.{arith}
use Rattle.sheet.specs.Check.{count_of}
use Rattle.items.proofs.Turns.{turn, end}
use Rattle.measure.specs.Walked.{cells_of}
use Rattle.measure.proofs.Walks.{larger_is, small, walking_first, walking_shape, walking_other, walking_end}
use Rattle.measure.proofs.walk.Goals as goal

pub loop-b-init : goal.loop-b-init
loop-b-init c =
    let first = walking_first c.args.s.now c.requires (count_of c.args.s.now) refl in
    (search rules, rw (c.into_iter-b-iterator.ensures.into_iter_gives, c.of-b-items.ensures.1, c.start_state-canvas.ensures) first)

-- ---- a shape

pub cells-pixels-requires : goal.cells-pixels-requires
cells-pixels-requires c = rw c.clipped.ensures (small _ _ _ c.loop-b.invariant.1.stands c.reach_of-area.result)

pub overflow_add-pixels : goal.overflow_add-pixels
overflow_add-pixels c =
    let i = c.loop-b.invariant in
    omega (arith, c.cells-pixels.ensures.1, i.0.fits, i.1.within, i.1.low)

pub loop-b-preserved-then-is_shape : goal.loop-b-preserved-then-is_shape
loop-b-preserved-then-is_shape c =
    let i = c.loop-b.invariant in
    let t = turn i.0 c.in-Some.b c.next.new.self c.in-Some.ensures.steps in
    let shape = rw t.bytes at (sym c.is_shape.ensures ∙ c.if-is_shape.true) in
    let met = c.cells-pixels.ensures in
    let reach = c.clipped.ensures ∙ rw (c.reach_of-area.ensures, t.bytes) in (
      t.after,
      rw (t.next, c.max-words.ensures, larger_is)
          (walking_shape _ c.requires _ refl _ _ _ _ _ i.1 t.more shape _ _ (c.need.ensures ∙ rw t.bytes) (met.0 ∙ ap cells_of reach) met.1),
    )

-- ---- a push or a pop

pub loop-b-preserved : goal.loop-b-preserved
loop-b-preserved c =
    let i = c.loop-b.invariant in
    let t = turn i.0 c.in-Some.b c.next.new.self c.in-Some.ensures.steps in
    let other = rw t.bytes at (sym c.is_shape.ensures ∙ c.if-is_shape.false) in (
      t.after,
      rw (t.next, c.max-most.ensures, larger_is, c.state_after-canvas.ensures, t.bytes)
          (walking_other _ c.requires _ refl _ _ _ _ _ i.1 t.more other),
    )

pub returns : goal.returns
returns c =
    let i = c.loop-b.invariant in
    walking_end _ _ _ _ _ _ _ i.1 (end i.0 c.next.new.self c.in-None.ensures.steps)
