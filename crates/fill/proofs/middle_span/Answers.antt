-- `fill::middle_span` meets its contract. Assumes nothing.
use Rattle.std.proofs.Common.{rules}
use Rattle.paints.specs.Paints.{paint_at}
use Rattle.fill.specs.Fill.{middle_ink}
use Rattle.fill.proofs.middle_span.Goals as goal

pub returns-in-Linear : goal.returns-in-Linear
unfolding middle_ink paint_at
returns-in-Linear c = c.draw.ensures (middle_ink c.args.paint) (λ x p q _ _ _ e. rw (c.in-Linear.is, ← c.centre-yc.ensures) (search rules))

pub returns-in_default : goal.returns-in_default
unfolding middle_ink
returns-in_default c = c.draw-in_default.ensures (middle_ink c.args.paint) (λ x p q _ _ _ e. rw (← c.centre-yc.ensures) (search rules))
