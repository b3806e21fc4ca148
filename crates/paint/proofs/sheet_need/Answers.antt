-- `paint::sheet_need` meets its contract. The greatest need so far and of what is left is the whole. Assumes nothing.
use Rattle.std.proofs.Common.{rules}
use Prim.Native.Nat.{max}
use mathlib.Core.Path.{◌≡◌, sym, ap, ◌∙◌}
use Rattle.sheet.specs.Check.{count_of}
use Rattle.items.proofs.Turns.{turn, end}
use Rattle.paint.proofs.Needs.{need_turn, need_done}
use Rattle.paint.proofs.sheet_need.Goals as goal

pub loop-b-preserved : goal.loop-b-preserved
loop-b-preserved c =
    let l = c.loop-b in
    let s = c.args.s.now in
    let t = turn l.invariant.0 c.in-Some.b c.next.new.self c.in-Some.ensures.steps in
    let most : c.max-most.result ≡ max l.most c.need.result = search rules in
    (t.after, rw t.next (sym (need_turn s (count_of s) l.b-iterator.next l.most c.max-most.result t.more (most ∙ ap (max l.most) (c.need.ensures ∙ rw t.bytes))) ∙ l.invariant.1))

pub returns : goal.returns
returns c =
    let l = c.loop-b in
    let s = c.args.s.now in
    let e = end l.invariant.0 c.next.new.self c.in-None.ensures.steps in
    sym (need_done s (count_of s) l.b-iterator.next l.most e) ∙ l.invariant.1
