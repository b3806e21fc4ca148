-- `paints::Rounded::of` meets its contract. Assumes nothing.
use Rattle.paints.proofs.Rounded.of.Goals as goal

pub returns : goal.returns
returns c =
    let m = c.before.before.before.before.before in
    rw (c.bottom.ensures, c.right.ensures, c.radius.ensures, m.cy.ensures, m.cx.ensures)
