-- `maldjupp::shapes::maldjupp_shadow_rrect` meets its contract, by that of `shadow::shadow_rrect`. Assumes nothing.
use mathlib.Core.Path.{◌∙◌, sym}
use borrow.Author.Tests.{le-leb, lt-leb}
use Rattle.gfx.proofs.Answers.{refused_shape}
use Rattle.maldjupp.proofs.Numbers.{five_some, skip_over, skip_fits}
use Rattle.maldjupp.proofs.shapes.maldjupp_shadow_rrect.Goals as goal

pub returns-then-skip-gt1 : goal.returns-then-skip-gt1
returns-then-skip-gt1 c =
    rw c.refused_kind.ensures (refused_shape (skip_over _ _ _ _ (lt-leb _ 1 c.if-skip-gt1.true)) (five_some _ _))

pub shadow_rrect-requires : goal.shadow_rrect-requires
shadow_rrect-requires c = tt

pub returns : goal.returns
returns c =
    rw (← skip_fits _ _ _ _ (le-leb _ 1 c.if-skip-gt1.false)) c.shadow_rrect.ensures
