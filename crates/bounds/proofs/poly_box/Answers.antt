-- `bounds::poly_box` meets its contract. Assumes nothing.
use mathlib.Core.Path.{sym, subst}
use native.Mathlib.Omega.{arith}
use Rattle.bounds.specs.declared.PolyBox.{PolyBox}
use Rattle.bounds.specs.Bounds.{poly_box}
use Rattle.bounds.specs.Plans.{Near}
use Rattle.bounds.proofs.Boxed.{Whole, extent_whole, box_near}
use Rattle.bounds.proofs.Signs.{back}
use Rattle.bounds.proofs.poly_box.Goals.{After-extent_of-e}
use Rattle.bounds.proofs.poly_box.Goals as goal

whole : (e : After-extent_of-e) → Whole e.extent_of-e.result
whole e = rw e.extent_of-e.ensures (extent_whole e.args.pts.now e.requires)

pub origin-ox-requires : goal.origin-ox-requires
origin-ox-requires c = (whole c).left

pub origin-oy-requires : goal.origin-oy-requires
origin-oy-requires c = (whole (goal.at.origin-oy-requires c).After-extent_of-e).top

pub span-bw-requires : goal.span-bw-requires
span-bw-requires c = ((whole (goal.at.span-bw-requires c).After-extent_of-e).right, rw (back c.origin-ox.result (omega arith)) c.origin-ox.ensures.near)

pub span-bh-requires : goal.span-bh-requires
span-bh-requires c = ((whole (goal.at.span-bh-requires c).After-extent_of-e).bottom, rw (back c.origin-oy.result (omega arith)) c.origin-oy.ensures.near)

pub returns-clause-value : goal.returns-clause-value
unfolding poly_box
returns-clause-value c =
    rw (c.span-bh.ensures, c.span-bw.ensures, back c.origin-oy.result (omega arith), back c.origin-ox.result (omega arith), c.origin-oy.ensures.value, c.origin-ox.ensures.value, c.extent_of-e.ensures)

pub returns-clause-near : goal.returns-clause-near
returns-clause-near c = subst (λ (g : PolyBox). Near g) (sym (returns-clause-value c)) (box_near c.args.pts.now c.requires)
