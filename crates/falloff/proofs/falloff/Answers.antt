-- `falloff::falloff` meets its contract. The first i entries hold their levels. Assumes nothing.
use Rattle.std.proofs.Common.{refl, sym, ◌∙◌, ◌≡◌, arith, add-one}
use Rattle.std.proofs.lemmas.List.{take_more_set, take_all}
use Rattle.falloff.specs.Falloff.{level_of, table}
use Rattle.falloff.proofs.Fractions.{level_on_file}
use Rattle.falloff.proofs.falloff.Goals.{After-level}
use Rattle.falloff.proofs.falloff.Goals as goal

pub loop-i-init : goal.loop-i-init
unfolding table
loop-i-init c = refl

pub level-requires : goal.level-requires
level-requires c = c.on_file-fractions.ensures.number _ (omega arith)

level-is : (c : After-level) → c.level.result ≡ level_of c.args.a c.loop-i.i
level-is c = c.level.ensures ∙ level_on_file c.on_file-fractions.result c.on_file-fractions.ensures _ _ (omega arith)

pub loop-i-preserved : goal.loop-i-preserved
unfolding table
loop-i-preserved c =
    let l = c.loop-i in
    take_more_set l.entry-items l.i _ (omega arith) ∙ rw (l.invariant, level-is (goal.at.loop-i-preserved c).After-level) (rw (add-one l.i) refl)

pub returns : goal.returns
returns c =
    let l = c.loop-i in
    let e : l.i ≡ 97 = omega arith in
    sym (take_all 97 l.entry-items (omega arith)) ∙ rw e at l.invariant
