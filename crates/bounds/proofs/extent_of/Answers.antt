-- `bounds::extent_of` meets its contract. The points so far are in the extent, and the others are left. Assumes nothing.
use Rattle.std.proofs.Common.{rules, ◌≡◌, ◌+◌, ◌++◌, ◌∷◌, [], length, ◌∙◌, length-append}
use lib.Ieee.{of_bits, neg}
use Rattle.bounds.specs.Bounds.{extent_of}
use Rattle.bounds.proofs.Turns.{extent_next, rest_next}
use Rattle.bounds.proofs.extent_of.Goals as goal

pub loop-p-init : goal.loop-p-init
unfolding extent_of of_bits neg
loop-p-init c = search rules

pub loop-p-preserved : goal.loop-p-preserved
loop-p-preserved c =
    let pts = c.args.pts.now in
    let i = c.loop-p.invariant in
    let n = length c.loop-p.yielded in
    let s = c.in-Some.ensures.steps in
    let more : length (c.loop-p.yielded ++ c.in-Some.p ∷ []) ≡ n + 1 = length-append _ _ in
    rw more (
      c.widen-e.ensures ∙ extent_next pts n _ _ _ i.2 s.1.0 (s.1.1 ∙ i.1) c.loop-p.e i.0,
      s.0 ∙ i.1,
      rest_next pts n _ _ _ i.2 s.1.0 (s.1.1 ∙ i.1),
    )
