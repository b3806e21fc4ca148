-- `Shade::straight_middle` meets its contract. Assumes nothing.
use Rattle.std.proofs.Common.{◌≡◌, true, ◌&&◌, leb, get_or}
use Rattle.shadow.specs.Shadow.{straight_middle}
use Rattle.shadow.proofs.Levels.{first_level}
use Rattle.shadow.proofs.Shade.straight_middle.Goals as goal

pub returns-then-skip-full : goal.returns-then-skip-full
unfolding straight_middle
returns-then-skip-full c =
    let at = c.args in
    let left : (at.skip && leb (get_or at.self.lut.now 0 0) c.alpha_of-v.result) ≡ true = c.if-skip-full.true in
    rw (← c.alpha_of-v.ensures, ← (first_level _ _ c.args.self.levels), left)

pub returns-else-skip-full : goal.returns-else-skip-full
unfolding straight_middle
returns-else-skip-full c =
    rw (← c.alpha_of-v.ensures, ← (first_level _ _ c.args.self.levels), c.if-skip-full.false)
