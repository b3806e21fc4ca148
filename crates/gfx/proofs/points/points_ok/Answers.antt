-- `gfx::points::points_ok` meets its contract. Assumes nothing.
use mathlib.Core.Path.{refl}
use Rattle.gfx.specs.Points.{points_ok}
use Rattle.gfx.proofs.points.points_ok.Goals as goal

pub returns : goal.returns
unfolding points_ok
returns c = refl
