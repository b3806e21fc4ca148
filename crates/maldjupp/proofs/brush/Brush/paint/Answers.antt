-- `maldjupp::brush::Brush::paint` meets its contract. In each arm the table computes. Assumes nothing.
use borrow.Author.Tests.{ne_eqb}
use Rattle.maldjupp.specs.Brushes.{paint_of}
use Rattle.maldjupp.proofs.brush.Brush.paint.Goals as goal

pub returns-in-0 : goal.returns-in-0
unfolding paint_of
returns-in-0 c = simp c.in-0.is

pub returns-in-1 : goal.returns-in-1
unfolding paint_of
returns-in-1 c = simp c.in-1.is

pub returns-in-2 : goal.returns-in-2
unfolding paint_of
returns-in-2 c = simp (c.in-2.is, c.new-in-2.ensures, c.new.ensures)

pub returns-in-3-to-4294967295 : goal.returns-in-3-to-4294967295
unfolding paint_of
returns-in-3-to-4294967295 c =
    let no = c.in-3-to-4294967295.in-3-to-4294967295-own.rest in
    simp (ne_eqb _ 0 no.0.0.1, ne_eqb _ 1 no.0.1, ne_eqb _ 2 no.1, c.new-in-3-to-4294967295.ensures)
