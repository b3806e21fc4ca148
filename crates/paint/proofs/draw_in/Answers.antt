-- `paint::draw_in` meets its contract. Assumes nothing.
use mathlib.Core.Path.{refl}
use Rattle.gfx.proofs.Steps.{steps_left}
use Rattle.paint.specs.Paint.{grounded_in}
use Rattle.paint.proofs.draw_in.Goals as goal

pub returns : goal.returns
unfolding grounded_in
returns c =
    let g = c.ground.ensures in
    let f = c.first_state-state.ensures in
    record {
      answers = refl;
      grounds = rw (f, g) at (steps_left c.fill_ground-grounded.ensures);
      leaves = rw (f, g) at (rw c.fill_ground-grounded.ensures.called.paints at c.render-steps.ensures);
    }
