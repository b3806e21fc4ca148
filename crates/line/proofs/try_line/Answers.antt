-- `line::try_line` meets its contract. Assumes nothing.
use mathlib.Core.Path.{sym}
use Rattle.gfx.proofs.Answers.{stopped_shape, done_shape}
use Rattle.gfx.proofs.Fits.{canvas_fits}
use Rattle.gfx.proofs.Sizes.{shape_open}
use Rattle.line.proofs.try_line.Goals as goal

pub returns-in_err-check_shape : goal.returns-in_err-check_shape
returns-in_err-check_shape c = stopped_shape _ (rw c.line_ok.ensures at c.in_err-check_shape.ensures) _ c.from_residual.ensures.1

pub draw_line-requires : goal.draw_line-requires
draw_line-requires c = canvas_fits _ _ _ (shape_open _ _ _ (sym c.in_ok-check_shape.ensures))

pub returns : goal.returns
returns c = done_shape (rw c.line_ok.ensures at c.in_ok-check_shape.ensures) c.draw_line.ensures
