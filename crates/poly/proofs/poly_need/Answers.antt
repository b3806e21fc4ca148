-- `poly::poly_need` meets its contract. Assumes nothing.
use mathlib.Core.Path.{◌≡◌, sym, ◌∙◌}
use mathlib.Core.Bool.{true}
use Rattle.poly.specs.Poly.{poly_ok}
use Rattle.poly.proofs.Accepts.{need_in_lem, need_out, few_in, coords_in, plan_need}
use Rattle.poly.proofs.poly_need.Goals.{Else-not-poly_ok}
use Rattle.poly.proofs.poly_need.Goals as goal

accepted : (c : Else-not-poly_ok) → poly_ok c.args.pts.now ≡ true
accepted c = sym c.poly_ok.ensures ∙ c.if-not-poly_ok.false

pub returns-then-not-poly_ok : goal.returns-then-not-poly_ok
returns-then-not-poly_ok c = need_out c.args.pts.now (sym c.poly_ok.ensures ∙ c.if-not-poly_ok.true)

pub plan_of-requires : goal.plan_of-requires
plan_of-requires c =
    let pts = c.args.pts.now in
    (few_in pts (accepted c), coords_in pts (accepted c))

pub returns : goal.returns
returns c =
    let pts = c.args.pts.now in
    rw c.plan_of.ensures (plan_need pts ∙ sym (need_in_lem pts (accepted (goal.at.returns c).Else-not-poly_ok)))
