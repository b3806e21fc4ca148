-- `fill::Round::cut` meets its contract. Assumes nothing.
use mathlib.Core.Path.{◌≡◌, sym, ◌∙◌}
use mathlib.Core.Bool.{true, false}
use Rattle.paints.specs.Paints.{centre_of}
use Rattle.fill.specs.Fill.{edge_row, corner_row}
use Rattle.fill.proofs.Parts.{cut_edge, cut_between}
use Rattle.fill.proofs.Round.cut.Goals.{After-corner_row, Else-edge_row}
use Rattle.fill.proofs.Round.cut.Goals as goal

inner : (c : Else-edge_row) → edge_row c.args.self.rect (centre_of c.args.row.y) ≡ false
inner c = rw (← c.centre-yc.ensures, ← c.edge_row.ensures) c.if-edge_row.false

beside : (c : After-corner_row) →
    corner_row c.args.self.rect c.args.self.edge.r (centre_of c.args.row.y)
    ≡ c.corner_row.result
beside c = rw (← c.centre-yc.ensures) (sym c.corner_row.ensures)

pub returns-then-edge_row : goal.returns-then-edge_row
returns-then-edge_row c =
    cut_edge c.args.self.rect c.args.self.edge.r c.args.row.y _ _ c.requires.0 (rw (← c.centre-yc.ensures, ← c.edge_row.ensures) c.if-edge_row.true)

pub returns-then-corner_row : goal.returns-then-corner_row
returns-then-corner_row c =
    rw (c.clamped.ensures, c.args.self.own_bent)
    (cut_between c.args.self.rect c.args.self.edge.r c.args.row.y _ _ true c.requires.0 (inner (goal.at.returns-then-corner_row c).Else-edge_row) (beside (goal.at.returns-then-corner_row c).After-corner_row ∙ c.if-corner_row.true))

pub returns : goal.returns
returns c =
    rw (c.clamped-2.ensures, c.args.self.own_straight)
    (cut_between c.args.self.rect c.args.self.edge.r c.args.row.y _ _ false c.requires.0 (inner (goal.at.returns c).Else-edge_row) (beside (goal.at.returns c).After-corner_row ∙ c.if-corner_row.false))
