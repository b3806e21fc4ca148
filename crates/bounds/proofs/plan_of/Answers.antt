-- `bounds::plan_of` meets its contract. Assumes nothing.
use Rattle.bounds.proofs.Needs.{few_plan, large_plan, small_plan}
use Rattle.bounds.proofs.plan_of.Goals as goal

pub returns-then-pts-lt3 : goal.returns-then-pts-lt3
returns-then-pts-lt3 c = few_plan c.args.pts.now c.if-pts-lt3.true

pub returns-then-bw-bh-gt4000000 : goal.returns-then-bw-bh-gt4000000
returns-then-bw-bh-gt4000000 c =
    large_plan c.args.pts.now c.poly_box-g.result c.poly_box-g.ensures.value c.if-pts-lt3.false c.if-bw-bh-gt4000000.true

pub returns : goal.returns
returns c =
    small_plan c.args.pts.now c.poly_box-g.result c.poly_box-g.ensures.value c.if-pts-lt3.false c.if-bw-bh-gt4000000.false
