-- `accum::edge::edge_rows` meets its contract. The rows from `from` up to y are in the accumulator, and x is where the edge enters row y.
-- Assumes nothing.
use mathlib.Core.Path.{refl, sym, ap, ◌∙◌}
use native.Mathlib.Nat.{sub_self}
use native.Mathlib.Omega.{arith}
use lib.Ieee.{Float}
use Rattle.accum.specs.Lines.{edge_x, edge_rows, row_next}
use Rattle.accum.proofs.Turns.{edge_x_more, edge_rows_more}
use Rattle.accum.proofs.edge.edge_rows.Goals as goal

pub loop-y-init : goal.loop-y-init
unfolding edge_x edge_rows
loop-y-init c = (omega arith, omega arith, refl, (rw sub_self), (rw sub_self))

pub loop-y-preserved : goal.loop-y-preserved
loop-y-preserved c =
    let at = c.args in
    let inv = c.loop-y.invariant in
    let y = c.loop-y.y in (
      omega arith,
      omega arith,
      omega arith,
      c.edge_row-x.ensures.0 ∙ ap (λ (x : Float). row_next at.e y x) inv.3 ∙ sym (edge_x_more at.e at.from y inv.0),
      c.edge_row-x.ensures.1 ∙ rw (inv.3, inv.4) (sym (edge_rows_more at.e at.from y inv.0 at.a.now at.bw)),
    )
