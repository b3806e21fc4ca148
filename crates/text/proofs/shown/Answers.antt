-- `text::shown` meets its contract. Assumes nothing.
use native.Mathlib.Omega.{arith}
use Rattle.text.proofs.Painted.{picture_shown, refusal_shown, some_width}
use Rattle.text.proofs.shown.Goals as goal

pub put_picture-requires : goal.put_picture-requires
put_picture-requires c =
    let wide = some_width _ _ _ _ _ _ (rw c.u16_at-w.ensures.0 at c.paint.ensures) c.if-a-eq0.true in
    (omega (arith, c.u16_at-w.ensures.0, wide), omega arith)

pub returns-then-a-eq0 : goal.returns-then-a-eq0
returns-then-a-eq0 c =
    rw (picture_shown _ _ _ _ _ _ (rw c.u16_at-w.ensures.0 at c.paint.ensures) c.if-a-eq0.true) (rw c.u16_at-w.ensures.0 at c.put_picture.ensures)

pub returns-else-a-eq0 : goal.returns-else-a-eq0
returns-else-a-eq0 c =
    rw (refusal_shown _ _ _ _ _ _ (rw c.u16_at-w.ensures.0 at c.paint.ensures) c.if-a-eq0.false) c.put_refusal.ensures
