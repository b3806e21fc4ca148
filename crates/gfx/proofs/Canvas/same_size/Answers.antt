-- `gfx::Canvas::same_size` meets its contract. Assumes nothing.
use lib.Signed.{mag}
use Rattle.std.proofs.Common.{rules, ◌<◌}
use Rattle.geom.proofs.Signed.{kept, eq_bits}
use Rattle.gfx.specs.Calls.{same_size}
use Rattle.gfx.proofs.Canvas.same_size.Goals as goal

pub returns : goal.returns
unfolding same_size
returns c =
    let s = c.args.self in
    let w : mag s.w < 2147483648 = search rules in
    let h : mag s.h < 2147483648 = search rules in
    rw (
      eq_bits s.w c.raise.result w c.raise.type_inv,
      eq_bits s.h c.raise-2.result h c.raise-2.type_inv,
      c.raise.ensures,
      c.raise-2.ensures,
      kept c.args.w c.ranges.w.sfits,
      kept c.args.h c.ranges.h.sfits,
    )
