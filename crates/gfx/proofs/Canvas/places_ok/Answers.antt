-- `gfx::Canvas::places_ok` meets its contract. Assumes nothing.
use mathlib.Core.Path.{◌≡◌}
use mathlib.Core.Bool.{true, false}
use Rattle.std.proofs.Common.{rules}
use Rattle.std.proofs.lemmas.Iterator.{cases_from_all, YieldsList-from_slice}
use Rattle.std.proofs.lemmas.Iterator.Consumers.{YieldsList-from_enumerate}
use Rattle.gfx.proofs.Places.{tested, places_told}
use Rattle.gfx.proofs.Canvas.places_ok.Goals as goal

pub returns : goal.returns
returns c =
    let s = c.args.self.now in
    places_told s _ (search rules)
    (cases_from_all _ _ _ (λ p. tested s p ≡ true) (λ p. tested s p ≡ false) c.all.ensures.ran
    (YieldsList-from_enumerate (YieldsList-from_slice s.saved (search rules)) (search rules))
    (λ x q k. search rules) (λ x q k. search rules))
