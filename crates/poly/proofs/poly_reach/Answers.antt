-- `poly::poly_reach` meets its contract. Assumes nothing.
use mathlib.Core.Path.{◌≡◌, sym, ◌∙◌}
use mathlib.Core.Bool.{true}
use Rattle.geom.specs.Box.{no_box}
use Rattle.poly.specs.Poly.{poly_ok}
use Rattle.poly.proofs.Accepts.{reach_in_lem, reach_out, few_in, coords_in, plan_reach, plan_near}
use Rattle.poly.proofs.poly_reach.Goals.{Else-not-poly_ok}
use Rattle.poly.proofs.poly_reach.Goals as goal

accepted : (c : Else-not-poly_ok) → poly_ok c.args.pts.now ≡ true
accepted c = sym c.poly_ok.ensures ∙ c.if-not-poly_ok.false

pub returns-then-not-poly_ok : goal.returns-then-not-poly_ok
unfolding no_box
returns-then-not-poly_ok c =
    reach_out c.args.pts.now (sym c.poly_ok.ensures ∙ c.if-not-poly_ok.true)

pub plan_of-requires : goal.plan_of-requires
plan_of-requires c =
    let pts = c.args.pts.now in
    (few_in pts (accepted c), coords_in pts (accepted c))

pub reach_of-requires : goal.reach_of-requires
reach_of-requires c =
    let pts = c.args.pts.now in
    let h = accepted (goal.at.reach_of-requires c).Else-not-poly_ok in
    rw c.plan_of.ensures (plan_near pts (few_in pts h) (coords_in pts h))

pub returns : goal.returns
returns c =
    let pts = c.args.pts.now in
    c.reach_of.ensures ∙ rw c.plan_of.ensures (plan_reach pts ∙ sym (reach_in_lem pts (accepted (goal.at.returns c).Else-not-poly_ok)))
