-- `replay::replay` meets its contract. Assumes nothing.
use native.Mathlib.Omega.{arith}
use mathlib.Core.Path.{sym}
use lib.Seq.{length-take-le}
use Rattle.replay.proofs.Laws.{replayed_refused, replayed_run}
use Rattle.replay.proofs.replay.Goals as goal

pub slice_bounds-paint-end : goal.slice_bounds-paint-end
slice_bounds-paint-end c =
    sym (length-take-le c.end_of-end.result c.args.sheets.now (omega (arith, c.end_of-end.ensures)))

pub returns-then-reply-ne0 : goal.returns-then-reply-ne0
returns-then-reply-ne0 c =
    replayed_refused c.args.sheets.now c.args.first _ c.end_of-end.ensures c.args.lens.now c.args.pitch c.args.px.now c.args.scratch.now _ _ _ c.paint-reply.ensures c.if-reply-ne0.true

pub returns : goal.returns
returns c =
    replayed_run c.args.sheets.now c.args.first _ c.end_of-end.ensures c.args.lens.now c.args.pitch c.args.px.now c.args.scratch.now _ _ _ c.paint-reply.ensures c.if-reply-ne0.false _ _ _ c.patches.ensures
