-- `fill::fill_row` meets its contract. Assumes nothing.
use Rattle.draw.proofs.Loops.{drew_as}
use Rattle.draw.proofs.Rows.{row_same}
use Rattle.paints.proofs.Colours.{row_colour}
use Rattle.fill.proofs.Parts.{parts_drawn, same_paint}
use Rattle.fill.proofs.fill_row.Goals as goal

pub returns : goal.returns
returns c =
    drew_as (parts_drawn _ _ _ _ _ _ _ _ _ _ _ _ c.cut-le.ensures c.rim-left.ensures c.middle_span-middle.ensures c.rim-right.ensures)
    (row_same _ _ _ _ _ _ _ (λ x p _ _. same_paint _ _ _ _ _ (λ k. rw (c.in_row-here.ensures, c.centre.ensures) (row_colour _ k _)) x p))
