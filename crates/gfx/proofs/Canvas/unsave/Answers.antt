-- `gfx::Canvas::unsave` meets its contract. Assumes nothing.
use Rattle.std.proofs.Common.{rules}
use Rattle.geom.specs.Box.{no_box}
use Rattle.gfx.specs.State.{unsaved}
use Rattle.gfx.proofs.Canvas.unsave.Goals as goal

pub returns : goal.returns
unfolding unsaved no_box
returns c = search rules
