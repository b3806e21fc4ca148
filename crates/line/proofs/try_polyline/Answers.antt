-- `line::try_polyline` meets its contract. Assumes nothing.
use mathlib.Core.Path.{sym}
use Rattle.gfx.proofs.Answers.{stopped_shape, done_counted}
use Rattle.gfx.proofs.Coords.{points_open, points_few}
use Rattle.gfx.proofs.Fits.{canvas_fits}
use Rattle.line.proofs.try_polyline.Goals as goal

pub returns-in_err-check_points : goal.returns-in_err-check_points
returns-in_err-check_points c = stopped_shape _ (rw c.float_ok.ensures at c.in_err-check_points.ensures) _ c.from_residual.ensures.1

pub draw_lines-requires : goal.draw_lines-requires
draw_lines-requires c =
    let o = points_open _ _ _ _ (sym c.in_ok-check_points.ensures) in
    record { area_fits = λ reach. canvas_fits _ _ reach o.canvas; pts_len_bound = points_few _ o.points }

pub returns : goal.returns
returns c = done_counted (rw c.float_ok.ensures at c.in_ok-check_points.ensures) c.draw_lines.ensures.paints c.draw_lines.ensures.counts
