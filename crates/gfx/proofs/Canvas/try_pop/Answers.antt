-- `gfx::Canvas::try_pop` meets its contract. Assumes nothing.
use mathlib.Core.Path.{sym}
use native.Mathlib.Omega.{arith}
use Rattle.gfx.proofs.Sizes.{state_open}
use Rattle.gfx.proofs.Valid.{valid_depth}
use Rattle.gfx.proofs.Canvas.try_pop.Goals as goal

pub unsave-requires : goal.unsave-requires
unsave-requires c =
    let s = c.args.self in
    let h = valid_depth s (state_open s (sym c.in_ok-check_state.ensures)).valid in
    (omega (arith, c.if-self-eq0.false), h)
