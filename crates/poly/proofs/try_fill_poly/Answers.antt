-- `poly::try_fill_poly` meets its contract. Assumes nothing.
use mathlib.Core.Path.{◌≡◌, sym, ap, ◌∙◌}
use lib.Dec.{leb}
use Rattle.std.proofs.Common.{rules}
use lib.ListN.{length}
use Rattle.draw.proofs.Clips.{drawn_clip}
use Rattle.draw.proofs.Loops.{drew_as}
use Rattle.paints.specs.Paints.{paint_ok}
use Rattle.geom.specs.Refusals.{number_of}
use Rattle.gfx.specs.Calls.{unless}
use Rattle.gfx.specs.Points.{points_number}
use Rattle.poly.specs.Poly.{poly_need}
use Rattle.gfx.proofs.Coords.{OpenPoints, points_open, points_few}
use Rattle.gfx.proofs.Fits.{canvas_fits}
use Rattle.poly.proofs.Accepts.{plan_need}
use Rattle.poly.proofs.Calls.{stopped_fill, done_fill, by_points, by_words, told}
use Rattle.poly.proofs.try_fill_poly.Goals.{In_ok-check_points, After-ensure}
use Rattle.poly.proofs.try_fill_poly.Goals as goal

-- the first four tests passed
passed : (c : In_ok-check_points) → 0 ≡ points_number c.args.canvas (length c.args.px.now) c.args.pts.now (paint_ok c.args.paint)
passed c = rw c.in_range.ensures at c.in_ok-check_points.ensures

open_of : (c : In_ok-check_points) → OpenPoints c.args.canvas (length c.args.px.now) c.args.pts.now (paint_ok c.args.paint)
open_of c = points_open _ _ _ _ (sym (passed c))

pub returns-in_err-check_points : goal.returns-in_err-check_points
returns-in_err-check_points c =
    let n = rw c.in_range.ensures at c.in_err-check_points.ensures in
    stopped_fill _ (by_points _ _ _ _ _ _ n) _ c.from_residual.ensures.1

pub plan_of-plan-requires : goal.plan_of-plan-requires
plan_of-plan-requires c = let o = open_of (goal.at.plan_of-plan-requires c).In_ok-check_points in (points_few _ o.points, o.coords)

-- the test of the words, by those that the polygon needs
words_told : (c : After-ensure) → number_of c.ensure.result ≡ unless (leb (poly_need c.args.pts.now) (length c.args.scratch.now)) 9 0
words_told c =
    let n : c.plan_of-plan.result.need ≡ poly_need c.args.pts.now = rw c.plan_of-plan.ensures (plan_need c.args.pts.now) in
    rw n at (ap number_of c.ensure.ensures ∙ told _)

pub returns-in_err-ensure : goal.returns-in_err-ensure
returns-in_err-ensure c =
    let at = goal.at.returns-in_err-ensure c in
    let n = ap number_of (sym c.in_err-ensure.was) ∙ words_told at.After-ensure ∙ by_words _ _ _ _ _ (passed at.In_ok-check_points) in
    stopped_fill _ n _ c.from_residual-in_err-ensure.ensures.1

pub fill_planned-requires : goal.fill_planned-requires
fill_planned-requires c =
    let o = open_of (goal.at.fill_planned-requires c).In_ok-check_points in
    record { area_fits = canvas_fits _ _ _ o.canvas; pts_len_bound = (points_few _ o.points, o.coords); planned = (c.plan_of-plan.ensures, search rules) }

pub returns : goal.returns
returns c =
    let at = goal.at.returns c in
    let n = ap number_of (sym c.in_ok-ensure.was) ∙ words_told at.After-ensure ∙ by_words _ _ _ _ _ (passed at.In_ok-check_points) in
    done_fill n (drew_as c.fill_planned.ensures.drew (sym (drawn_clip _ _ _ _ _))) c.fill_planned.ensures.scratch_after
