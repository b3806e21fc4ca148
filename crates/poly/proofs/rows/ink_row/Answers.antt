-- `poly::rows::ink_row` meets its contract. The columns before x are drawn, and a is the sum of their words. Assumes nothing.
use mathlib.Core.Path.{◌≡◌, refl, ap, ◌∙◌}
use Prim.Native.Nat.{◌+◌, ◌-◌}
use native.Mathlib.Omega.{arith}
use Rattle.std.proofs.Common.{length-set}
use Rattle.color.specs.Inks.{inked_of}
use Rattle.draw.proofs.Loops.{row_start_lem, row_next, row_pass, row_end, bit_most}
use Rattle.poly.specs.Rooms.{ink_from}
use Rattle.poly.proofs.Spans.{turn_sum, ink_by, ink_none, turn_more}
use Rattle.poly.proofs.rows.ink_row.Goals as goal

pub loop-x-init : goal.loop-x-init
loop-x-init g c =
    let at = c.args in
    let row = at.row in
    let n : at.skip + (row.x0 - row.x0) ≡ at.skip = omega arith in (
      omega arith,
      refl,
      omega arith,
      omega arith,
      rw n c.run_sum-a.ensures,
      λ k a. row_start_lem row.pitch (ink_from at.acc.now at.ls at.skip row.x0 k) row.y row.x0 row.x1 at.px.now c.requires.span_fits.order,
    )

pub loop-x-preserved-then-cv-eq0 : goal.loop-x-preserved-then-cv-eq0
loop-x-preserved-then-cv-eq0 g c =
    let i = c.loop-x.invariant in
    let sum = turn_sum _ _ _ _ c.loop-x.x c.loop-x.a i.4 in (
      omega arith,
      i.1,
      omega arith,
      omega arith,
      sum ∙ turn_more _ _ _ _ _ i.2,
      λ k a. row_pass c.requires.span_fits (i.5 k a) c.loop-x-test.true (ink_none _ _ _ _ k _ _ _ sum c.cover-cv.ensures c.if-cv-eq0.true),
    )

pub loop-x-preserved : goal.loop-x-preserved
loop-x-preserved g c =
    let i = c.loop-x.invariant in
    let sum = turn_sum _ _ _ _ c.loop-x.x c.loop-x.a i.4 in (
      omega (arith, bit_most c.ink-q.result.altered),
      length-set _ _ _ ∙ i.1,
      omega arith,
      omega arith,
      sum ∙ turn_more _ _ _ _ _ i.2,
      λ k a. row_next c.requires.span_fits (i.5 k a) c.loop-x-test.true
          (a _ _ _ _ i.2 c.loop-x-test.true c.ink-q.ensures ∙ ap (inked_of _) (ink_by _ _ _ _ k _ _ _ sum c.cover-cv.ensures)),
    )

pub returns : goal.returns
returns g c = λ k a. row_end (c.loop-x.invariant.5 k a) c.loop-x-test.false
