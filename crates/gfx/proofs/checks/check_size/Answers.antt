-- `gfx::checks::check_size` meets its contract. Assumes nothing.
use native.Mathlib.Omega.{arith}
use Rattle.std.proofs.Common.{rules, ◌≡◌, true}
use Rattle.geom.proofs.Signed.{kept}
use Rattle.gfx.proofs.Valid.{side_of}
use Rattle.gfx.specs.State.{side_ok}
use Rattle.gfx.proofs.checks.check_size.Goals as goal

pub check_frame-requires : goal.check_frame-requires
check_frame-requires c =
    let tall : side_ok c.args.h ≡ true = search rules in
    omega (arith, rw (kept c.args.h c.ranges.h.sfits) at c.nat_of.ensures, (side_of c.args.h tall).high)
