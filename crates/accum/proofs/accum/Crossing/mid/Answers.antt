-- `Crossing::mid` meets its contract. Assumes nothing.
use mathlib.Core.Path.{◌∙◌}
use native.Mathlib.Omega.{arith}
use Rattle.accum.proofs.Columns.{mid_row_lem}
use Rattle.accum.proofs.accum.Crossing.mid.Goals as goal

pub returns : goal.returns
returns c =
    let at = c.args in
    let k = at.self in
    c.bump-2.ensures
    ∙ rw (c.f32_of.ensures, c.bump_run.ensures, c.bump.ensures)
    (mid_row_lem at.a.now k.ls k.x0i k.x1i k.d k.s k.x0fr at.a0 at.am (omega arith))
