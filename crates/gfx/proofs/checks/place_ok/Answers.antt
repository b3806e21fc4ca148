-- `gfx::checks::place_ok` meets its contract. Assumes nothing.
use mathlib.Core.Path.{◌∙◌}
use Rattle.gfx.proofs.Places.{zeros_is}
use Rattle.gfx.proofs.checks.place_ok.Goals as goal

pub returns-else-used : goal.returns-else-used
returns-else-used c = rw c.if-used.false (c.eq.ensures ∙ zeros_is c.args.b)
