-- `color::turns::rest` meets its contract. Assumes nothing.
use Prim.Native.Nat.{◌-◌, ◌/◌}
use lib.Dec.{T}
use lib.Ieee.{binary32, to_bits, fits}
use borrow.Author.Rules.{rules}
use Rattle.color.proofs.Remainders.{Far, near, far, past, lost}
use Rattle.color.proofs.turns.rest.Goals.{Then-h-2}
use Rattle.color.proofs.turns.rest.Goals as goal

pattern : (c : Then-h-2) → Far c.args.h
pattern c = past c.args.h (search rules) c.requires c.if-h.false c.if-h-2.true

pub returns-then-h : goal.returns-then-h
returns-then-h c = near c.args.h (search rules) c.requires c.if-h.true

pub overflow_sub-b : goal.overflow_sub-b
overflow_sub-b c = (pattern (goal.at.overflow_sub-b c).Then-h-2).field

pub returns-then-h-2 : goal.returns-then-h-2
returns-then-h-2 c =
    let p = pattern (goal.at.returns-then-h-2 c).Then-h-2 in
    let fit : T (fits binary32 c.args.h) = search rules in
    far c.args.h _ (to_bits binary32 c.args.h / 8388608 - 135) fit p.value c.doubled-r.result c.doubled-r.ensures

pub returns : goal.returns
returns c = lost c.args.h c.requires c.if-h-2.false
