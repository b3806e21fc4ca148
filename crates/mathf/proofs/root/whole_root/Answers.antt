-- `mathf::root::whole_root` meets its contract. The loop's invariant: the root lies from r up to, and without, r + 2 ^ i. Assumes nothing.
use Rattle.mathf.proofs.Roots.{loop_root}
use Rattle.mathf.proofs.root.whole_root.Goals.{In-loop-i}
use Rattle.mathf.proofs.root.whole_root.Goals as goal

pub returns : goal.returns
returns c = let at = c.loop-i in loop_root c.args.m at.r at.i c.requires c.loop-i-test.false at.invariant.2 at.invariant.3
