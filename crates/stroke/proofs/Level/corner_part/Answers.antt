-- `Level::corner_part` meets its contract. Assumes nothing.
use native.Mathlib.Omega.{arith}
use Rattle.std.proofs.Common.{rules, ◌≡◌, ◌+◌, ◌-◌}
use Rattle.draw.specs.Held.{Holds}
use Rattle.stroke.specs.Stroke.{band_ink}
use Rattle.stroke.specs.Rows.{band_at}
use Rattle.stroke.proofs.Level.corner_part.Goals as goal

pub returns : goal.returns
unfolding band_ink band_at Holds
returns c =
    let o = c.args.self.o in
    let row = c.args.row in
    let covers = c.filled-covers.ensures (band_at o.s o.width c.args.self.yc row.x0) (λ k v a b e. search rules) in
    c.draw.ensures (band_ink o.s o.width o.c)
    (λ x p q a b w e.
    let same : row.x0 + (x - row.x0) ≡ x = omega arith in
    let k = rw same at (covers (x - row.x0) (omega arith) (omega arith)) in
    search rules)
