-- `maldjupp::shapes::maldjupp_fill_poly` meets its contract, by that of `poly::fill_poly`. Assumes nothing.
use mathlib.Core.Path.{◌∙◌, sym}
use borrow.Author.Tests.{le-leb, lt-leb}
use Rattle.gfx.proofs.Answers.{refused_shape}
use Rattle.maldjupp.proofs.Numbers.{points_kind_some, points_kind_over, points_kind_stays, points_kind_fits}
use Rattle.maldjupp.proofs.shapes.maldjupp_fill_poly.Goals as goal

pub returns-then-brush-gt3 : goal.returns-then-brush-gt3
returns-then-brush-gt3 c =
    let over = lt-leb _ 3 c.if-brush-gt3.true in
    rw c.refused_points_kind.ensures (record { called = refused_shape (points_kind_over _ _ _ _ _ over) (points_kind_some _ _ _); clears = points_kind_stays _ _ _ _ _ _ _ over })

pub returns : goal.returns
returns c =
    rw (← points_kind_fits _ _ _ _ _ (le-leb _ 3 c.if-brush-gt3.false), ← c.paint.ensures) c.fill_poly.ensures
