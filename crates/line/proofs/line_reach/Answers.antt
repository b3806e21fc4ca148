-- `line::line_reach` meets its contract. Assumes nothing.
use mathlib.Core.Path.{◌∙◌}
use Rattle.std.proofs.Common.{◌≡◌, refl, false, Float}
use Rattle.std.specs.Float.{nan, inf, fin, float_with_sign}
use Rattle.line.specs.Lines.{abs_of, line_reach}
use Rattle.line.proofs.line_reach.Goals as goal

-- the number without its sign, as std has it
same : (x : Float) → float_with_sign false x ≡ abs_of x
unfolding float_with_sign abs_of
same nan = refl
same (inf s) = refl
same (fin s m e) = refl

pub returns : goal.returns
unfolding line_reach
returns c =
    rw (c.from_rect_outer.ensures, c.abs-2.ensures.value ∙ same _, c.abs.ensures.value ∙ same _, c.min-2.ensures, c.min.ensures)
