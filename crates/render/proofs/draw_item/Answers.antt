-- `render::draw_item` meets its contract. Assumes nothing.
use Rattle.render.specs.Stages.{item_steps}
use Rattle.render.proofs.draw_item.Goals as goal

pub item_of-item-requires : goal.item_of-item-requires
item_of-item-requires c = tt

pub draw_shape-requires : goal.draw_shape-requires
draw_shape-requires c = tt

pub returns : goal.returns
unfolding item_steps
returns c =
    rw c.item_of-item.ensures at c.draw_shape.ensures
