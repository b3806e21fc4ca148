-- `items::coords` meets its contract. The first i places hold their coordinates. Assumes nothing.
use mathlib.Core.Path.{◌≡◌, refl, sym, ◌∙◌}
use native.Mathlib.Numerals.{add-one}
use native.Mathlib.Omega.{arith}
use lib.ListN.{length-set}
use lib.Seq.{take-suc-set, take_all}
use Rattle.items.specs.Items.{coords_from}
use Rattle.items.proofs.PolyPoints.{coords_more}
use Rattle.items.proofs.coords.Goals as goal

pub loop-i-init : goal.loop-i-init
unfolding coords_from
loop-i-init c = (refl, refl, omega arith)

pub loop-i-preserved : goal.loop-i-preserved
loop-i-preserved c =
    let a = c.args in
    let l = c.loop-i in (
      rw (coords_more a.b.now a.from l.i, add-one l.i)
          (take-suc-set l.x-items l.i _ (omega arith) ∙ rw (l.invariant.0, c.f32_at.ensures)),
      simp length-set l.invariant.1,
      omega arith,
    )

pub returns : goal.returns
returns c =
    let l = c.loop-i in
    let e : l.i ≡ 128 = omega arith in
    sym (take_all 128 l.x-items (omega arith)) ∙ rw e at l.invariant.0
