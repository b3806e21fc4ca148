-- `poly::outline::edges` meets its contract. The first i edges are in the accumulator. Assumes nothing.
use mathlib.Core.Path.{refl, sym, ◌∙◌}
use native.Mathlib.Omega.{arith}
use Rattle.poly.specs.Poly.{edges_accum}
use Rattle.poly.proofs.Turns.{edges_more}
use Rattle.poly.proofs.outline.edges.Goals as goal

pub loop-i-init : goal.loop-i-init
unfolding edges_accum
loop-i-init c = (omega arith, refl, refl)

pub loop-i-preserved : goal.loop-i-preserved
loop-i-preserved c =
    let at = c.args in (
      omega arith,
      omega arith,
      c.edge_between.ensures
          ∙ rw c.loop-i.invariant.2 (sym (edges_more at.pts.now c.loop-i.i at.acc.now at.g)),
    )
