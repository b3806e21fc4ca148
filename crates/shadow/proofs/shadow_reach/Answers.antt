-- `shadow::shadow_reach` meets its contract. Assumes nothing.
use Rattle.std.proofs.Common.{refl}
use borrow.Author.Tests.{eq-eqb, ne_eqb}
use Rattle.geom.specs.Box.{no_box}
use Rattle.shadow.specs.Shadow.{shadow_reach}
use Rattle.shadow.proofs.shadow_reach.Goals.{then-c-eq0-via-then-c-eq0, then-c-eq0-via-else-c-eq0+then-blur}
use Rattle.shadow.proofs.shadow_reach.Goals as goal

pub returns-then-c-eq0 : goal.returns-then-c-eq0
unfolding shadow_reach no_box
returns-then-c-eq0 c =
    elim c.then-c-eq0.branch [
      | then-c-eq0-via-then-c-eq0 w ↦ rw (eq-eqb _ _ w.if-c-eq0.true) refl
      | then-c-eq0-via-else-c-eq0+then-blur w ↦ rw (ne_eqb _ _ w.if-c-eq0.false, w.if-blur.true) refl
    ]

pub returns : goal.returns
unfolding shadow_reach
returns c = rw (ne_eqb _ _ c.if-c-eq0.false, c.if-blur.false, ← c.inset.ensures) c.from_rect_outer.ensures
