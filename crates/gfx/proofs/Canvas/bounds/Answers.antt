-- `gfx::Canvas::bounds` meets its contract. Assumes nothing.
use Rattle.std.proofs.Common.{rules}
use Rattle.gfx.proofs.Answers.{told_box}
use Rattle.gfx.proofs.Canvas.bounds.Goals as goal

pub returns : goal.returns
returns c = search (rules, told_box)
