-- `compare::changed_in` meets its contract. What the items seen so far tell with those that are left is what all of them tell. Assumes nothing.
use Prim.Native.Nat.{ℕ, ◌+◌, ◌-◌, ◌≤◌}
use Rattle.std.proofs.Common.{rules, inl, inr}
use Rattle.std.specs.Prelude.{◌⊎◌}
use mathlib.Core.Path.{◌≡◌, sym, ap, ◌∙◌}
use mathlib.Core.Bool.{◌&&◌}
use mathlib.Core.List.{List}
use native.Mathlib.Nat.{sub-zero, add-zero}
use native.Mathlib.Omega.{arith}
use Rattle.std.specs.declared.option.Option.TheVariants.{None}
use Rattle.std.specs.Iterator.Adapters.{zip_first, zip_second}
use Rattle.geom.specs.Box.{no_box, join_all}
use Rattle.redraw.specs.Sheet.{reaches}
use Rattle.sheet.specs.Check.{count_of, bytes_at}
use Rattle.items.specs.Format.{item_in}
use Rattle.items.specs.Reader.{NextGives}
use Rattle.items.specs.declared.reader.Items.{Items}
use Rattle.items.proofs.Turns.{ItemsOf, turn, end}
use Rattle.clips.specs.States.{start_of, is_shape}
use Rattle.compare.specs.Compare.{change_from, told, told_by}
use Rattle.compare.proofs.Changes.{held, failed, told_after, told_first, told_other, told_pair, same_of, same_turn, shape_turn, other_turn, no_turn}
use Rattle.compare.proofs.changed_in.Goals as goal

-- after the last pair no item is left
ended : {old new : List ℕ} {x y : Items} → ItemsOf old x → ItemsOf new y → x.next ≡ y.next → count_of old ≡ count_of new
    → ((u : Items) × NextGives x None u) ⊎ ((u : Items) × NextGives y None u) → count_of new ≤ y.next
ended i j e q (inl g) = omega (arith, end i g.0 g.1, e, q)
ended i j e q (inr g) = end j g.0 g.1

pub loop-a-init : goal.loop-a-init
unfolding no_box
loop-a-init c =
    let old = c.args.old.now in
    let new = c.args.new.now in
    let z = c.zip-a-items.ensures in
    let all = change_from old new (count_of new) 0 (start_of new) in
    rw (c.into_iter-a-iterator.ensures.into_iter_gives, z.first, z.second) (
      search rules,
      search rules,
      c.of.ensures.1 ∙ sym c.of-2.ensures.1,
      omega arith,
      rw (c.of-2.ensures.1, sub-zero (count_of new), c.start_state-state.ensures) (sym (told_first c.canvas_of-canvas.result all)),
    )

-- one of two items is no shape
pub returns-in_err-ensure : goal.returns-in_err-ensure
returns-in_err-ensure c =
    let l = c.loop-a in
    let i = l.invariant in
    let old = c.args.old.now in
    let new = c.args.new.now in
    let p = turn i.0 c.in-Some.a (zip_first c.next.new.self) c.in-Some.ensures.steps.0 in
    let q = turn i.1 c.in-Some.b (zip_second c.next.new.self) c.in-Some.ensures.steps.1 in
    let k = (zip_second l.a-iterator).next in
    let n = count_of new in
    let a = p.bytes ∙ ap (bytes_at old) i.2 in
    let told : told_by c.from_residual.result ≡ told 10 no_box = search rules in
    let e = other_turn old new (n - k) (n - (k + 1)) k (omega (arith, q.more)) l.state _ (same_of old new k a q.bytes _ c.same.ensures) c.if-not-same.true in
    let both : c.both_shapes.result ≡ is_shape (item_in (bytes_at old k)) && is_shape (item_in (bytes_at new k)) = c.both_shapes.ensures ∙ rw (a, q.bytes) in
    let o = told_other c.canvas_of-canvas.result l.count l.area l.state.clip (item_in (bytes_at old k)) (item_in (bytes_at new k))
    (change_from old new (n - (k + 1)) (k + 1) l.state) _ both (failed _ _ c.ensure.ensures (c.in_err-ensure.was)) in
    let all = rw e at i.4 in
    told ∙ sym o ∙ all ∙ rw c.canvas_of-canvas.ensures

-- both are shapes
pub loop-a-preserved-then-not-same : goal.loop-a-preserved-then-not-same
loop-a-preserved-then-not-same c =
    let l = c.loop-a in
    let i = l.invariant in
    let old = c.args.old.now in
    let new = c.args.new.now in
    let p = turn i.0 c.in-Some.a (zip_first c.next.new.self) c.in-Some.ensures.steps.0 in
    let q = turn i.1 c.in-Some.b (zip_second c.next.new.self) c.in-Some.ensures.steps.1 in
    let k = (zip_second l.a-iterator).next in
    let n = count_of new in
    let a = p.bytes ∙ ap (bytes_at old) i.2 in
    let e = other_turn old new (n - k) (n - (k + 1)) k (omega (arith, q.more)) l.state _ (same_of old new k a q.bytes _ c.same.ensures) c.if-not-same.true in
    let both : c.both_shapes.result ≡ is_shape (item_in (bytes_at old k)) && is_shape (item_in (bytes_at new k)) = c.both_shapes.ensures ∙ rw (a, q.bytes) in
    let o = told_pair c.canvas_of-canvas.result l.count l.area l.state.clip (bytes_at old k) (bytes_at new k)
    (change_from old new (n - (k + 1)) (k + 1) l.state) _ both (held _ _ c.ensure.ensures (c.in_ok-ensure.was)) in (
      p.after,
      q.after,
      omega (arith, p.next, q.next, i.2),
      omega (arith, q.next, i.3),
      rw (q.next, c.area_with-area.ensures, a, q.bytes) (sym o ∙ rw (← e) i.4),
    )

-- the same push or pop
pub loop-a-preserved-then-not-is_shape : goal.loop-a-preserved-then-not-is_shape
loop-a-preserved-then-not-is_shape c =
    let l = c.loop-a in
    let i = l.invariant in
    let old = c.args.old.now in
    let new = c.args.new.now in
    let p = turn i.0 c.in-Some.a (zip_first c.next.new.self) c.in-Some.ensures.steps.0 in
    let q = turn i.1 c.in-Some.b (zip_second c.next.new.self) c.in-Some.ensures.steps.1 in
    let k = (zip_second l.a-iterator).next in
    let n = count_of new in
    let a = p.bytes ∙ ap (bytes_at old) i.2 in
    let e = same_turn old new (n - k) (n - (k + 1)) k (omega (arith, q.more)) l.state _ (same_of old new k a q.bytes _ c.same.ensures) c.if-not-same.false in
    (p.after, q.after, omega (arith, p.next, q.next, i.2), omega (arith, q.next, i.3), rw (q.next, c.state_after-state.ensures, q.bytes, ← e) i.4)

-- the same shape
pub loop-a-preserved : goal.loop-a-preserved
loop-a-preserved c =
    let l = c.loop-a in
    let i = l.invariant in
    let old = c.args.old.now in
    let new = c.args.new.now in
    let p = turn i.0 c.in-Some.a (zip_first c.next.new.self) c.in-Some.ensures.steps.0 in
    let q = turn i.1 c.in-Some.b (zip_second c.next.new.self) c.in-Some.ensures.steps.1 in
    let k = (zip_second l.a-iterator).next in
    let n = count_of new in
    let a = p.bytes ∙ ap (bytes_at old) i.2 in
    let shape : c.is_shape.result ≡ is_shape (item_in (bytes_at new k)) = c.is_shape.ensures ∙ rw q.bytes in
    let e = shape_turn old new (n - k) (n - (k + 1)) k (omega (arith, q.more)) l.state _ (same_of old new k a q.bytes _ c.same.ensures) c.if-not-same.false _ shape c.if-not-is_shape.false in
    (p.after, q.after, omega (arith, p.next, q.next, i.2), omega (arith, q.next, i.3), rw (q.next, ← e) i.4)

pub returns : goal.returns
unfolding told_after reaches join_all
returns c =
    let l = c.loop-a in
    let i = l.invariant in
    let new = c.args.new.now in
    let k = (zip_second l.a-iterator).next in
    let over = ended i.0 i.1 i.2 c.requires c.in-None.ensures.steps in
    let e = no_turn c.args.old.now new (count_of new - k) k l.state (omega (arith, over)) in
    let all = rw (e, add-zero) at i.4 in
    c.settled.ensures ∙ all ∙ rw c.canvas_of-canvas.ensures
