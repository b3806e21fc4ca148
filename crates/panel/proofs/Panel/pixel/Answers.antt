-- `panel::Panel::pixel` meets its contract. Assumes nothing.
use Prim.Native.Nat.{◌+◌, ◌*◌, ◌<◌}
use native.Mathlib.Omega.{arith}
use lib.ListN.{length}
use Rattle.panel.specs.Registers.{pixel_in}
use Rattle.panel.proofs.Places.{pixel_inside}
use Rattle.panel.proofs.Panel.pixel.Goals.{After-column}
use Rattle.panel.proofs.Panel.pixel.Goals as goal

-- the index, as the definition has it, is below the length of px
within : (c : After-column) →
    c.row.result * c.args.canvas.pitch + c.column.result < length c.args.px.now
within c =
    rw (c.row.ensures.0, c.column.ensures.0) (pixel_inside c.args.canvas _ c.args.self c.requires)

pub overflow_mul-at : goal.overflow_mul-at
overflow_mul-at c =
    let i = pixel_inside c.args.canvas _ c.args.self c.requires in
    rw c.row.ensures.0 (record { fits = omega (arith, i, c.well_formed) })

pub overflow_add-at : goal.overflow_add-at
overflow_add-at c = record { fits = omega (arith, within c, c.well_formed) }

pub offset_bounds-px-at : goal.offset_bounds-px-at
offset_bounds-px-at c = record { fits = omega (arith, within c, c.well_formed) }

pub bounds-px-at : goal.bounds-px-at
bounds-px-at c = within (goal.at.bounds-px-at c).After-column

pub returns : goal.returns
unfolding pixel_in
returns c = rw (c.row.ensures.0, c.column.ensures.0)
