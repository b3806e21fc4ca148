-- `accum::edge::row_between` meets its contract. Assumes nothing.
use mathlib.Core.Path.{◌∙◌}
use mathlib.Core.Bool.{cond}
use Prim.Native.Nat.{◌≤◌}
use Rattle.mathf.specs.F32.{◌<ᶠ◌}
use native.Mathlib.Omega.{arith}
use Rattle.accum.specs.Lines.{row_between}
use Rattle.accum.specs.Rooms.{first_column, last_column}
use Rattle.accum.proofs.Columns.{floor_column, ceil_column}
use Rattle.accum.proofs.edge.row_between.Goals as goal

pub row_accum-requires : goal.row_accum-requires
row_accum-requires c =
    let bw = c.args.bw in
    let l0 : first_column c.clamp-xa.result ≤ bw =
    rw (c.clamp-xa.ensures, c.f32_of-maxx.ensures) (floor_column bw (omega arith) c.ordered-left.result.0).within in
    let l1 : last_column c.clamp-xb.result ≤ bw =
    rw (c.clamp-xb.ensures, c.f32_of-maxx.ensures) (ceil_column bw (omega arith) c.ordered-left.result.1).within in
    (omega arith, omega arith, omega arith)

pub returns : goal.returns
unfolding row_between
returns c =
    let at = c.args in
    let x0 = floor_column at.bw (omega arith) (cond (at.x <ᶠ at.xnext) at.x at.xnext) in
    let x1 = ceil_column at.bw (omega arith) (cond (at.x <ᶠ at.xnext) at.xnext at.x) in
    c.row_accum.ensures
    ∙ rw (c.clamp-xb.ensures, c.clamp-xa.ensures, c.ordered-left.ensures.0, c.ordered-left.ensures.1, c.f32_of-maxx.ensures, x0.is, x1.is)
