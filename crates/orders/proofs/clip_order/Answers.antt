-- `orders::clip_order` meets its contract. Assumes nothing.
use Rattle.std.proofs.Common.{rules, ◌≡◌, refl, ℕ, ◌-◌, ◌≤◌, ◌<◌, List, map, length, take, drop, length-drop, take_all, arith, ◌∙◌}
use borrow.Author.Tests.{lt-ltb, le-ltb}
use Rattle.encode.specs.Encode.{encoded, fit_number, Wrote}
use Rattle.encode.specs.declared.Written.{Written}
use Rattle.orders.specs.declared.Kind.{Kind}
use Rattle.orders.specs.Orders.{item, head, order_number, order_sheet}
use Rattle.orders.specs.Kinds.{digit_of, kinds_in}
use Rattle.orders.proofs.Digits.{order_is}
use Rattle.orders.proofs.Turns.{items_of}
use Rattle.orders.proofs.clip_order.Goals as goal

abbrev bytes_of : Kind → List ℕ
bytes_of kind = item (digit_of kind)

module _ (k : ℕ) (buf : List ℕ) where
  no_order : 1093 ≤ k → (r : Written) → r ≡ record { number = 23; item = 0; len = 0 }
      → Wrote (order_number k (length buf)) 0 (order_sheet k) buf r buf
  unfolding order_number
  no_order h r e = rw (le-ltb k 1093 h) (record { answers = e; writes = refl })

  an_order : k < 1093 → (kinds : List Kind) → map digit_of kinds ≡ kinds_in 6 k → (r : Written) (buf' : List ℕ)
      → (let sheet = encoded head (map bytes_of kinds) in Wrote (fit_number sheet (length buf)) 0 sheet buf r buf')
      → Wrote (order_number k (length buf)) 0 (order_sheet k) buf r buf'
  unfolding order_number order_sheet
  an_order h kinds e r buf' w = rw (lt-ltb k 1093 h, order_is k h, ← e, ← items_of item kinds) w

pub returns-then-number-ge1093 : goal.returns-then-number-ge1093
returns-then-number-ge1093 c = no_order c.args.number c.args.buf.now c.if-number-ge1093.true _ (c.refused.ensures ∙ rw c.into.ensures)

pub returns : goal.returns
returns c =
    let a = c.args in
    let from = c.kinds_of-from.result in
    let kinds = c.kinds_of-from.new.kinds in
    let six : length kinds ≡ 6 = search rules in
    let whole : take (6 - from) (drop from kinds) ≡ drop from kinds = take_all _ _ (omega (arith, length-drop from kinds)) in
    an_order a.number a.buf.now c.if-number-ge1093.false _ (rw whole c.kinds_of-from.ensures.0) _ _
    (c.write_sheet.ensures bytes_of (λ kind bytes p. search rules))
