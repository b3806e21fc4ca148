-- `paints::edges::Edge::of` meets its contract. Assumes nothing.
use Rattle.paints.proofs.edges.Edge.of.Goals as goal

pub returns : goal.returns
returns c = rw (c.near_of.ensures, c.far_of.ensures)
