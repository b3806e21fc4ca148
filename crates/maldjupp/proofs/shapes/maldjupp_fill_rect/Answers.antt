-- `maldjupp::shapes::maldjupp_fill_rect` meets its contract, by that of `fill::fill_rect`. Assumes nothing.
use mathlib.Core.Path.{◌∙◌, sym}
use borrow.Author.Tests.{le-leb, lt-leb}
use Rattle.gfx.proofs.Answers.{refused_shape}
use Rattle.maldjupp.proofs.Numbers.{five_some, kind_over, kind_fits}
use Rattle.maldjupp.proofs.shapes.maldjupp_fill_rect.Goals as goal

pub returns-then-brush-gt3 : goal.returns-then-brush-gt3
returns-then-brush-gt3 c =
    rw c.refused_kind.ensures (refused_shape (kind_over _ _ _ _ (lt-leb _ 3 c.if-brush-gt3.true)) (five_some _ _))

pub returns : goal.returns
returns c =
    rw (← kind_fits _ _ _ _ (le-leb _ 3 c.if-brush-gt3.false), ← c.paint.ensures) c.fill_rect.ensures
