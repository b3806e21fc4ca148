-- `bounds::reach_of` meets its contract. Assumes nothing.
use mathlib.Core.Path.{◌∙◌}
use Prim.Native.Nat.{◌≤◌}
use native.Mathlib.Omega.{arith}
use lib.IntN.{pos, nat_abs, ◌+ℤ◌}
use Rattle.bounds.proofs.Signs.{back, sum_small}
use Rattle.bounds.proofs.reach_of.Goals as goal

pub returns : goal.returns
returns c =
    let g = c.args.g in
    let l : nat_abs g.ox ≤ 16386 = omega (arith, c.requires.left) in
    let t : nat_abs g.oy ≤ 16386 = omega (arith, c.requires.top) in
    let w = c.requires.wide in
    let h = c.requires.high in
    c.new.ensures
    ∙ rw (back g.ox (omega arith), back g.oy (omega arith), back (pos g.bw) (omega arith), back (pos g.bh) (omega arith), back (g.ox +ℤ pos g.bw) (sum_small g.ox (pos g.bw) l w), back (g.oy +ℤ pos g.bh) (sum_small g.oy (pos g.bh) t h))
