-- `gfx::Canvas::check_px` meets its contract. Assumes nothing.
use native.Mathlib.Omega.{arith}
use Rattle.std.proofs.Common.{rules, ◌≡◌, true}
use Rattle.geom.proofs.Signed.{Kept}
use Rattle.gfx.proofs.Valid.{side_of, valid_of_lem}
use Rattle.gfx.specs.State.{valid_of}
use Rattle.gfx.proofs.Canvas.check_px.Goals as goal

pub check_frame-requires : goal.check_frame-requires
check_frame-requires c =
    let s = c.args.self in
    let good : valid_of s ≡ true = search rules in
    let h : Kept s.h = search rules in
    omega (arith, rw h at c.nat_of-2.ensures, (side_of s.h (valid_of_lem s good).side_h).high)
