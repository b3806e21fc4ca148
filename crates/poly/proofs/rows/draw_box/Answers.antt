-- `poly::rows::draw_box` meets its contract. Assumes nothing.
use Rattle.std.proofs.Common.{rules, arith}
use mathlib.Core.Path.{◌≡◌, ap, ◌∙◌}
use Rattle.draw.specs.Areas.{drawn_in, clip_to}
use Rattle.draw.specs.declared.Area.{Area}
use Rattle.draw.proofs.Loops.{drew_as, drew_none}
use Rattle.draw.proofs.Rows.{none_across}
use Rattle.bounds.specs.Bounds.{reach_of}
use Rattle.poly.specs.Poly.{ink_in}
use Rattle.poly.proofs.Spans.{clip_over, over_part}
use Rattle.poly.proofs.rows.draw_box.Goals.{After-clipped-area}
use Rattle.poly.proofs.rows.draw_box.Goals as goal

-- what the clip lets through
area_is : (k : After-clipped-area) → k.clipped-area.result ≡ clip_to (reach_of k.args.g) k.args.clip
area_is k = k.clipped-area.ensures ∙ rw k.reach_of.ensures

pub returns-then-area : goal.returns-then-area
returns-then-area c =
    let at = c.args in
    let f = ink_in at.acc.now at.g at.paint in
    drew_none (none_across at.pitch f at.px.now c.clipped-area.result c.if-area.true ∙ ap (λ (b : Area). drawn_in at.pitch b f at.px.now) (area_is (goal.at.returns-then-area c).After-clipped-area))

pub draw-requires-clause-callable : goal.draw-requires-clause-callable
draw-requires-clause-callable c = λ px y l u fits.
    let at = c.args in
    let b = c.clipped-area.result in
    let v = clip_over at.g at.clip b (area_is (goal.at.draw-requires-clause-callable c).After-clipped-area) c.if-area.false (omega arith) in
    let down = over_part y v.1 l u in
    search (rules, fits, c.requires.room, v.0, down)

pub draw-requires-clause-draws : goal.draw-requires-clause-draws
draw-requires-clause-draws c = (ink_in c.args.acc.now c.args.g c.args.paint, λ px y n px' l u fits e. search rules)

pub returns : goal.returns
returns c =
    let at = c.args in
    let f = ink_in at.acc.now at.g at.paint in
    drew_as (c.draw.ensures f (λ px y n px' l u fits e. search rules)) (ap (λ (b : Area). drawn_in at.pitch b f at.px.now) (area_is (goal.at.returns c).After-clipped-area))
