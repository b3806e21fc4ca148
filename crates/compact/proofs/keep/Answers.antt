-- `compact::keep` meets its contract. The items chosen so far, and then those that are left and stay, are all that stay. Assumes nothing.
use Rattle.std.proofs.Common.{rules}
use mathlib.Core.Path.{refl, sym, ◌∙◌}
use native.Mathlib.Omega.{arith}
use Rattle.std.specs.Iterator.Adapters.{enumerate_source}
use Rattle.sheet.specs.Check.{count_of}
use Rattle.items.proofs.Turns.{turn, end}
use Rattle.compact.proofs.Walks.{as_number, few_items, room, keeping_first, keeping_shape, keeping_other, keeping_end}
use Rattle.compact.proofs.keep.Goals as goal

pub loop-k-init : goal.loop-k-init
loop-k-init c =
    let all = c.enumerate-k-items.ensures in
    let first = keeping_first c.args.s.now c.requires.0 (count_of c.args.s.now) refl c.args.kept.now c.requires.1 in
    rw (c.into_iter-k-iterator.ensures.into_iter_gives, all.source, all.count) (search rules, sym c.of.ensures.1, rw (c.of.ensures.1, c.start_state-canvas.ensures) first)

pub bounds-kept-count : goal.bounds-kept-count
bounds-kept-count c =
    let i = c.loop-k.invariant in
    let t = turn i.0 c.in-Some.b (enumerate_source c.next.new.self) c.in-Some.ensures.steps.0 in
    room _ c.requires.0 _ refl _ _ _ _ i.2 t.more

-- ---- a shape
pub loop-k-preserved-then-is_shape : goal.loop-k-preserved-then-is_shape
loop-k-preserved-then-is_shape c =
    let i = c.loop-k.invariant in
    let g = c.in-Some.ensures.steps in
    let t = turn i.0 c.in-Some.b (enumerate_source c.next.new.self) g.0 in
    let shape = rw t.bytes at (sym c.is_shape.ensures ∙ c.if-is_shape.true) in (
      t.after,
      omega (arith, g.2, i.1, t.next),
      rw (g.1, i.1, t.next)
          (keeping_shape _ c.requires.0 _ refl _ _ _ _ i.2 t.more shape _ (as_number _ _ (c.in_view.ensures ∙ rw t.bytes))),
    )

-- ---- a push or a pop
pub loop-k-preserved : goal.loop-k-preserved
loop-k-preserved c =
    let i = c.loop-k.invariant in
    let g = c.in-Some.ensures.steps in
    let t = turn i.0 c.in-Some.b (enumerate_source c.next.new.self) g.0 in
    let other = rw t.bytes at (sym c.is_shape.ensures ∙ c.if-is_shape.false) in (
      t.after,
      omega (arith, g.2, i.1, t.next),
      rw (g.1, i.1, t.next, c.state_after-canvas.ensures, t.bytes)
          (keeping_other _ c.requires.0 _ refl _ _ _ _ i.2 t.more other),
    )

pub returns : goal.returns
returns c =
    let i = c.loop-k.invariant in
    let e = end i.0 (enumerate_source c.next.new.self) c.in-None.ensures.steps.0 in
    (keeping_end _ _ _ _ _ _ i.2 e, omega (arith, i.2.low, i.2.within, few_items c.args.s.now c.requires.0 (count_of c.args.s.now) refl))
