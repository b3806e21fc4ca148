-- `render::draw_shape` meets its contract. Assumes nothing.
use mathlib.Core.Path.{refl}
use Rattle.gfx.proofs.Steps.{steps_left}
use Rattle.render.specs.Stages.{shape_px, shape_scratch, shape_steps}
use Rattle.render.proofs.draw_shape.Goals as goal

pub fill_rrect-requires : goal.fill_rrect-requires
fill_rrect-requires c = tt

pub stroke_rrect-requires : goal.stroke_rrect-requires
stroke_rrect-requires c = tt

pub line-requires : goal.line-requires
line-requires c = tt

pub draw_poly-requires : goal.draw_poly-requires
draw_poly-requires c = tt

pub shadow_rrect-requires : goal.shadow_rrect-requires
shadow_rrect-requires c = tt

pub draw_chain-requires : goal.draw_chain-requires
draw_chain-requires c = tt

pub returns-in-Push : goal.returns-in-Push
unfolding shape_px shape_scratch shape_steps
returns-in-Push c = rw c.in-Push.is (record { paints = refl; clears = refl; counts = refl })

pub returns-in-Pop : goal.returns-in-Pop
unfolding shape_px shape_scratch shape_steps
returns-in-Pop c = rw c.in-Pop.is (record { paints = refl; clears = refl; counts = refl })

pub returns-in-Fill : goal.returns-in-Fill
unfolding shape_px shape_scratch shape_steps
returns-in-Fill c = rw c.in-Fill.is (record { paints = c.fill_rrect.ensures.called.paints; clears = refl; counts = steps_left c.fill_rrect.ensures })

pub returns-in-Stroke : goal.returns-in-Stroke
unfolding shape_px shape_scratch shape_steps
returns-in-Stroke c = rw c.in-Stroke.is (record { paints = c.stroke_rrect.ensures.called.paints; clears = refl; counts = steps_left c.stroke_rrect.ensures })

pub returns-in-Line : goal.returns-in-Line
unfolding shape_px shape_scratch shape_steps
returns-in-Line c = rw c.in-Line.is (record { paints = c.line.ensures.called.paints; clears = refl; counts = steps_left c.line.ensures })

pub returns-in-Poly : goal.returns-in-Poly
unfolding shape_px shape_scratch shape_steps
returns-in-Poly c = rw c.in-Poly.is c.draw_poly.ensures

pub returns-in-Shadow : goal.returns-in-Shadow
unfolding shape_px shape_scratch shape_steps
returns-in-Shadow c = rw c.in-Shadow.is (record { paints = c.shadow_rrect.ensures.called.paints; clears = refl; counts = steps_left c.shadow_rrect.ensures })

pub returns-in-Chain : goal.returns-in-Chain
unfolding shape_px shape_scratch shape_steps
returns-in-Chain c = rw c.in-Chain.is (record { paints = c.draw_chain.ensures.0; clears = refl; counts = c.draw_chain.ensures.1 })

pub returns-in-Unknown : goal.returns-in-Unknown
unfolding shape_px shape_scratch shape_steps
returns-in-Unknown c = rw c.in-Unknown.is (record { paints = refl; clears = refl; counts = refl })
