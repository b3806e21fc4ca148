-- `replay::patches` meets its contract. The loop's invariant, `Running`: what is left to do, done from here, gives what doing all
-- gives from the start. Assumes nothing.
use Rattle.replay.proofs.Laws.{Running}
use Rattle.replay.proofs.patches.Given as goal

abbrev pub invariant-loop-n : goal.invariant-loop-n
invariant-loop-n l = Running l.sheets l.lens l.initial.s l.initial.at l.pitch l.initial.px l.initial.scratch l.s l.at l.n-index l.px l.scratch
