-- `gfx::Canvas::has` meets its contract. Assumes nothing.
use Rattle.geom.proofs.Signed.{kept}
use borrow.Author.Rules.{rules}
use Rattle.gfx.proofs.Canvas.has.Goals as goal

pub returns : goal.returns
returns c =
    let s = c.args.self in
    let w = kept s.w (search rules) in
    let h = kept s.h (search rules) in
    simp (w, h) at c.in_canvas.ensures
