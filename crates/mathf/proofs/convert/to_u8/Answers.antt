-- `mathf::convert::to_u8` meets its contract, by the laws of `Parts`. Assumes nothing.
use Rattle.std.proofs.Common.{ℕ, ◌<◌, sym, ◌∙◌, subst}
use lib.Ieee.{of_bits}
use lib.Ieee.Casts.{to_unsigned-lt}
use Rattle.mathf.proofs.Parts.{Taken, byte}
use Rattle.mathf.proofs.convert.to_u8.Goals.{After-byte_part}
use Rattle.mathf.proofs.convert.to_u8.Goals as goal

-- what `cut` is given
here : (c : After-byte_part) → Taken 8 c.args.x c.byte_part.result
unfolding of_bits
here c = rw (c.byte_part.ensures, c.from_zero.ensures) (byte c.args.x)

pub cut-requires : goal.cut-requires
cut-requires c = record { not_negative = (here c).sign; in_range = (here c).small }

pub overflow_cast-result : goal.overflow_cast-result
overflow_cast-result c = record { fits = subst (λ (n : ℕ). n < 256) (sym (c.cut.ensures ∙ (here (goal.at.overflow_cast-result c).After-byte_part).same)) (to_unsigned-lt 8 _) }

pub returns : goal.returns
returns c = c.cut.ensures ∙ (here (goal.at.returns c).After-byte_part).same
