-- `gfx::Boxed::of` meets its contract. Assumes nothing.
use Rattle.std.proofs.Common.{rules}
use Rattle.geom.specs.Box.{no_box}
use Rattle.gfx.proofs.Boxed.of.Goals as goal

pub returns-in-Err : goal.returns-in-Err
unfolding no_box
returns-in-Err c = search rules
