-- `Level::full_span` meets its contract. Assumes nothing.
use mir.Syntax.{w32}
use mir.Val.{Fits}
use Rattle.std.proofs.Common.{rules, ◌+◌, refl}
use Rattle.draw.specs.Areas.{DrewRow}
use Rattle.draw.proofs.Loops.{row_three, three_fit}
use Rattle.stroke.specs.Stroke.{band_ink}
use Rattle.stroke.proofs.Levels.{level_at}
use Rattle.stroke.proofs.Level.full_span.Goals.{After-corner_span-right}
use Rattle.stroke.proofs.Level.full_span.Goals as goal

-- the columns beside no corner are drawn
middle : (c : After-corner_span-right) → let o = c.args.self.now.o in let row = c.args.row in
    DrewRow row.pitch row.y o.level.from o.level.upto (band_ink o.s o.width o.c) c.corner_span-left.new.px c.draw-between.result c.draw-between.new.px
unfolding band_ink
middle c =
    let l = c.args.self.now in
    c.draw-between.ensures (band_ink l.o.s l.o.width l.o.c)
    (λ x p q h u w e. let k = level_at l _ _ x c.requires.part.level c.if-self.true h u in search rules)

-- the counts of the three parts can be added
sums : (c : After-corner_span-right) →
    Fits w32 (c.corner_span-left.result + c.draw-between.result) × Fits w32 (c.corner_span-left.result + c.draw-between.result + c.corner_span-right.result)
sums c =
    let part = c.requires.part in
    three_fit c.requires.row_fits.wide (part.after, part.order, part.before) c.corner_span-left.ensures.few (middle c).few c.corner_span-right.ensures.few

pub overflow_add-result : goal.overflow_add-result
overflow_add-result c = (sums (goal.at.overflow_add-result c).After-corner_span-right).0

pub overflow_add-result-then-self : goal.overflow_add-result-then-self
overflow_add-result-then-self c = (sums (goal.at.overflow_add-result-then-self c).After-corner_span-right).1

pub returns-then-self : goal.returns-then-self
returns-then-self c =
    let row = c.args.row in
    let part = c.requires.part in
    row_three row.pitch _ _ _ _ row.y row.x0 _ _ row.x1 _ _ _ _ part.after part.order part.before
    c.corner_span-left.ensures (middle (goal.at.returns-then-self c).After-corner_span-right) c.corner_span-right.ensures
    (λ x p h u. refl) (λ x p h u. refl) (λ x p h u. refl)
