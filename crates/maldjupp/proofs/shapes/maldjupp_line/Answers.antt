-- `maldjupp::shapes::maldjupp_line` meets its contract, by that of `line::line`. Assumes nothing.
use Rattle.maldjupp.proofs.shapes.maldjupp_line.Goals as goal

pub line-requires : goal.line-requires
line-requires c = tt

pub returns : goal.returns
returns c = c.line.ensures
