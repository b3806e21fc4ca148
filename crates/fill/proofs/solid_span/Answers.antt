-- `fill::solid_span` meets its contract. Assumes nothing.
use native.Mathlib.Omega.{arith}
use Rattle.std.proofs.Common.{rules}
use Rattle.paints.specs.declared.Paint.TheVariants.{Solid}
use Rattle.paints.specs.Paints.{paint_at}
use Rattle.fill.specs.Fill.{middle_ink}
use Rattle.fill.proofs.Parts.{plain_drawn, clear_drawn}
use Rattle.fill.proofs.solid_span.Goals as goal

pub returns-in-255 : goal.returns-in-255
returns-in-255 c =
    plain_drawn _ _ _ _ _ _ _ (omega arith) (rw c.pix.ensures at c.store_span.ensures)

pub returns-in_default : goal.returns-in_default
unfolding middle_ink paint_at
returns-in_default c = c.draw.ensures (middle_ink (Solid c.args.c)) (λ x p q _ _ _ e. search rules)

pub returns-in-0 : goal.returns-in-0
returns-in-0 c = clear_drawn _ _ _ _ _ _ (omega arith)
