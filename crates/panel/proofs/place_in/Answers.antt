-- `panel::place_in` meets its contract. Assumes nothing.
use Rattle.geom.proofs.Boxes.{in_pixel}
use Rattle.panel.specs.Registers.{place_in}
use Rattle.panel.proofs.place_in.Goals as goal

pub returns : goal.returns
unfolding place_in
returns c =
    let s = c.args in
    rw (c.from-a.ensures, in_pixel s.b s.x s.y)
