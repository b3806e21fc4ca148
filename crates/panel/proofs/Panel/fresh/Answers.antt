-- `panel::Panel::fresh` meets its contract. Assumes nothing.
use mathlib.Core.Path.{refl}
use Rattle.panel.specs.Registers.{fresh_panel}
use Rattle.geom.specs.Box.{no_box}
use Rattle.panel.proofs.Panel.fresh.Goals as goal

pub returns : goal.returns
unfolding fresh_panel no_box
returns c = refl
