-- `geom::IRect::intersect` meets its contract. Assumes nothing.
use Rattle.std.proofs.Common.{rules}
use Rattle.geom.specs.Box.{meet}
use Rattle.geom.proofs.Signed.{Kept, kept, larger, smaller}
use Rattle.geom.proofs.IRect.intersect.Goals as goal

pub returns : goal.returns
unfolding meet
returns c =
    let a = c.args.self in
    let b = c.args.o in
    let s : Kept a.x0 × Kept a.y0 × Kept a.x1 × Kept a.y1 = search rules in
    let t : Kept b.x0 × Kept b.y0 × Kept b.x1 × Kept b.y1 = search rules in
    let x0 = kept c.max-x0.result c.max-x0.type_inv in
    let y0 = kept c.max-y0.result c.max-y0.type_inv in
    let x1 = kept c.max-x1.result c.max-x1.type_inv in
    let y1 = kept c.max-y1.result c.max-y1.type_inv in
    rw (
      x0,
      y0,
      x1,
      y1,
      larger (kept c.min.result c.min.type_inv) x0 c.max-x1.ensures.value,
      larger (kept c.min-2.result c.min-2.type_inv) y0 c.max-y1.ensures.value,
      larger s.0 t.0 c.max-x0.ensures.value,
      larger s.1 t.1 c.max-y0.ensures.value,
      smaller s.2 t.2 c.min.ensures.value,
      smaller s.3 t.3 c.min-2.ensures.value,
    )
