-- `Span::draw_covered` meets its contract. The columns before x are drawn. Assumes nothing.
use mathlib.Core.Path.{refl, ◌∙◌}
use native.Mathlib.Omega.{arith}
use Rattle.std.proofs.Common.{length-set}
use Rattle.draw.proofs.Loops.{row_start_lem, row_next, row_pass, row_end, bit_most}
use Rattle.draw.proofs.Span.draw_covered.Goals as goal

pub loop-x-init : goal.loop-x-init
loop-x-init g c =
    let o = c.requires.span_fits.order in
    (omega arith, refl, omega arith, o, λ f a. row_start_lem _ f _ _ _ _ o)

pub loop-x-preserved-then-cv-eq0 : goal.loop-x-preserved-then-cv-eq0
loop-x-preserved-then-cv-eq0 g c =
    let i = c.loop-x.invariant in (
      omega arith,
      i.1,
      omega arith,
      omega arith,
      λ f a. row_pass c.requires.span_fits (i.4 f a) c.loop-x-test.true
          (a.keeps _ _ i.2 c.loop-x-test.true (rw c.if-cv-eq0.true at c.cover-cv.ensures)),
    )

pub loop-x-preserved : goal.loop-x-preserved
loop-x-preserved g c =
    let i = c.loop-x.invariant in (
      omega (arith, bit_most c.ink-inked.result.altered),
      length-set _ _ _ ∙ i.1,
      omega arith,
      omega arith,
      λ f a. row_next c.requires.span_fits (i.4 f a) c.loop-x-test.true
          (a.inks _ _ _ _ i.2 c.loop-x-test.true (omega arith) c.cover-cv.ensures c.ink-inked.ensures),
    )

pub returns : goal.returns
returns g c = λ f a. row_end (c.loop-x.invariant.4 f a) c.loop-x-test.false
