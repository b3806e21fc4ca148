-- `maldjupp::shapes::maldjupp_stroke_rrect` meets its contract, by that of `stroke::stroke_rrect`. Assumes nothing.
use Rattle.maldjupp.proofs.shapes.maldjupp_stroke_rrect.Goals as goal

pub stroke_rrect-requires : goal.stroke_rrect-requires
stroke_rrect-requires c = tt

pub returns : goal.returns
returns c = c.stroke_rrect.ensures
