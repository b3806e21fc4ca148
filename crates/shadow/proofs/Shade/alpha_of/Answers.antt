-- `Shade::alpha_of` meets its contract. Assumes nothing.
use Rattle.std.proofs.Common.{◌∙◌}
use Rattle.shadow.specs.Shadow.{steps_out}
use Rattle.shadow.proofs.Levels.{table_alpha_lem}
use Rattle.shadow.proofs.Shade.alpha_of.Goals as goal

pub returns : goal.returns
unfolding steps_out
returns c =
    let h = c.args.self in
    (rw (c.args.self.levels, c.args.self.scaled) at c.table_alpha.ensures) ∙ table_alpha_lem _ h.blur c.args.sd
