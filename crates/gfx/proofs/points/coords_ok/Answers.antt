-- `gfx::points::coords_ok` meets its contract. Assumes nothing.
use mathlib.Core.Path.{◌≡◌}
use mathlib.Core.Bool.{true, false}
use Rattle.std.proofs.Common.{rules}
use Rattle.std.proofs.lemmas.Iterator.{cases_from_all, YieldsList-from_slice}
use Rattle.geom.specs.Plane.{float_ok}
use Rattle.gfx.proofs.Coords.{coords_told}
use Rattle.gfx.proofs.points.coords_ok.Goals as goal

pub returns : goal.returns
returns c =
    coords_told c.args.pts.now _
    (cases_from_all _ _ _ (λ x. float_ok x ≡ true) (λ x. float_ok x ≡ false) c.all.ensures.ran (YieldsList-from_slice c.args.pts.now cc)
    (λ x q k. search rules) (λ x q k. search rules))
