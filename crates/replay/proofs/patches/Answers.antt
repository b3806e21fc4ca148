-- `replay::patches` meets its contract. The loop's invariant, `Running`: what is left to do, done from here, gives what doing all
-- gives from the start. Assumes nothing.
use Rattle.replay.proofs.Laws.{running_first, running_next, running_done}
use Rattle.replay.proofs.patches.Goals as goal

pub loop-n-init : goal.loop-n-init
loop-n-init c =
    running_first c.args.sheets.now c.args.lens.now c.args.state c.args.start c.args.pitch c.args.px.now c.args.scratch.now c.requires.0 c.requires.1 c.requires.2

pub loop-n-preserved : goal.loop-n-preserved
loop-n-preserved c =
    let l = c.loop-n in
    running_next c.args.sheets.now c.args.lens.now c.args.state c.args.start c.args.pitch c.args.px.now c.args.scratch.now l.s l.at l.n-index l.px l.scratch _ _ _ _ l.invariant c.loop-n-test.true c.end_of-end.ensures c.advance-s.ensures

pub returns : goal.returns
returns c =
    let l = c.loop-n in
    running_done c.args.sheets.now c.args.lens.now c.args.state c.args.start c.args.pitch c.args.px.now c.args.scratch.now l.s l.at l.n-index l.px l.scratch l.invariant c.loop-n-test.false
