-- `stroke::level_columns` meets its contract. Assumes nothing.
use borrow.Author.Tests.{tests}
use Rattle.std.proofs.Common.{rules, ◌≡◌, true, ◌-◌, refl}
use Rattle.std.specs.Bool.{⊤}
use Rattle.std.proofs.lemmas.Bool.{MatchBool-at_true}
use Rattle.std.proofs.lemmas.Iterator.{cases_from_all, YieldsList-from_range}
use Rattle.mathf.specs.F32.{◌-ᶠ◌, ◌≤ᶠ◌, f0}
use Rattle.mathf.specs.Order.{fabs_of}
use Rattle.paints.specs.Paints.{centre_of}
use Rattle.stroke.proofs.Levels.{level_all}
use Rattle.stroke.proofs.level_columns.Goals as goal
use lib.Ieee.Bits.{is_true}

pub returns : goal.returns
returns c = λ e.
    let s = c.args.s in
    let found = cases_from_all _ _ _ (λ x. (fabs_of (centre_of x -ᶠ s.cx) -ᶠ (s.hw -ᶠ s.r) ≤ᶠ f0) ≡ true) (λ x. ⊤) c.all.ensures.ran
    (YieldsList-from_range c.args.a c.args.b (c.args.b - c.args.a) refl refl)
    (λ x q k. search (rules, tests)) (λ x q k. tt) in
    level_all s c.args.a c.args.b (MatchBool-at_true _ _ (is_true c.all.result e) found)
