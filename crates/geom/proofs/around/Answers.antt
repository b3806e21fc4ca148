-- `geom::around` meets its contract. Assumes nothing.
use Rattle.std.proofs.Common.{rules}
use Rattle.geom.specs.Box.{around}
use Rattle.geom.proofs.Signed.{Kept, kept, larger, smaller}
use Rattle.geom.proofs.around.Goals as goal

pub returns : goal.returns
unfolding around
returns c =
    let a = c.args.a in
    let b = c.args.b in
    let s : Kept a.x0 × Kept a.y0 × Kept a.x1 × Kept a.y1 = search rules in
    let t : Kept b.x0 × Kept b.y0 × Kept b.x1 × Kept b.y1 = search rules in
    rw (
      kept c.min-x0.result c.min-x0.type_inv,
      kept c.min-y0.result c.min-y0.type_inv,
      kept c.max-x1.result c.max-x1.type_inv,
      kept c.max-y1.result c.max-y1.type_inv,
      smaller s.0 t.0 c.min-x0.ensures.value,
      smaller s.1 t.1 c.min-y0.ensures.value,
      larger s.2 t.2 c.max-x1.ensures.value,
      larger s.3 t.3 c.max-y1.ensures.value,
    )
