-- `Shade::shade_box` meets its contract. Assumes nothing.
use Rattle.std.proofs.Common.{rules}
use Rattle.shadow.specs.Shadow.{shade_ink}
use Rattle.shadow.proofs.Shade.shade_box.Goals as goal

pub draw-requires-clause-draws : goal.draw-requires-clause-draws
draw-requires-clause-draws c =
    let a = c.args in
    (shade_ink a.self.s a.self.blur a.self.c a.skip, λ px y n px' _ _ _ e. search rules)

pub returns : goal.returns
returns c =
    let a = c.args in
    c.draw.ensures (shade_ink a.self.s a.self.blur a.self.c a.skip) (λ px y n px' _ _ _ e. search rules)
