-- `poly::fill::fill_planned` meets its contract. Assumes nothing.
use mathlib.Core.Path.{◌≡◌, sym, ap, ◌∙◌}
use mathlib.Core.Bool.{true}
use mathlib.Core.List.{List, ◌++◌}
use lib.ListN.{length, drop}
use lib.Seq.{length-take-le}
use lib.Ieee.{Float}
use Rattle.draw.specs.Areas.{clip_to, AreaFits}
use Rattle.draw.proofs.Loops.{drew_as, drew_none}
use Rattle.bounds.specs.Bounds.{poly_box, painted, reach_of, need_of}
use Rattle.bounds.specs.Plans.{Near}
use Rattle.poly.specs.Poly.{poly_need, poly_ink, cleared}
use Rattle.poly.proofs.Accepts.{plan_need, plan_box, plan_near}
use Rattle.poly.proofs.Needs.{some_painted, none_painted, reach_is, need_is, nothing_drawn, nothing_cleared}
use Rattle.poly.proofs.fill.fill_planned.Goals.{Start, Else-plan-eq0}
use Rattle.poly.proofs.fill.fill_planned.Goals as goal

need_known : (c : Start) → c.args.plan.need ≡ poly_need c.args.pts.now
need_known c = rw c.requires.planned.0 (plan_need c.args.pts.now)

is_painted : (t : Else-plan-eq0) → painted t.args.pts.now ≡ true
is_painted t = some_painted t.args.pts.now (λ z. t.if-plan-eq0.false ((let it : t.args.plan.need ≡ poly_need t.args.pts.now = rw t.requires.planned.0 (plan_need t.args.pts.now) in it) ∙ z))

box_is : (t : Else-plan-eq0) → t.args.plan.g ≡ poly_box t.args.pts.now
box_is t = rw t.requires.planned.0 (plan_box t.args.pts.now (is_painted t))

pub returns-then-plan-eq0 : goal.returns-then-plan-eq0
returns-then-plan-eq0 c =
    let at = c.args in
    let e = none_painted at.pts.now (sym (need_known (goal.at.returns-then-plan-eq0 c).Start) ∙ c.if-plan-eq0.true) in
    record { drew = drew_none (nothing_drawn at.pts.now e at.pitch at.clip (poly_ink at.pts.now at.paint) at.px.now); scratch_after = nothing_cleared at.pts.now e at.scratch.now }

pub fill_part-requires : goal.fill_part-requires
fill_part-requires c =
    let pts = c.args.pts.now in
    let t = (goal.at.fill_part-requires c).Else-plan-eq0 in
    let e = is_painted t in
    let fits : AreaFits c.args.pitch (clip_to (reach_of c.args.plan.g) c.args.clip) (length c.args.px.now) = rw (box_is t, reach_is pts e) c.requires.area_fits in
    let long : c.args.plan.need ≡ need_of c.args.plan.g = rw (box_is t) (need_known (goal.at.fill_part-requires c).Start ∙ sym (need_is pts e)) in
    let near : Near c.args.plan.g = rw c.requires.planned.0 (plan_near pts c.requires.pts_len_bound.0 c.requires.pts_len_bound.1) in
    record { area_fits = fits; near = (near, length-take-le _ _ c.requires.planned.1 ∙ long, c.requires.pts_len_bound.0) }

pub returns : goal.returns
unfolding cleared
returns c =
    let at = c.args in
    let t = (goal.at.returns c).Else-plan-eq0 in
    let e = is_painted t in
    record { drew = drew_as c.fill_part.ensures.drew_in (rw (box_is t, reach_is at.pts.now e)); scratch_after = ap (λ (l : List Float). l ++ drop at.plan.need at.scratch.now) c.fill_part.ensures.acc_after ∙ rw (box_is t, need_is at.pts.now e, need_known (goal.at.returns c).Start) }
