-- `Shade::corner_part` meets its contract. Assumes nothing.
use Rattle.std.proofs.Common.{◌≡◌, ap, ◌∙◌, ℕ, ◌+◌, ◌-◌, arith, rules, get_or}
use Rattle.color.specs.Inks.{over, inked_of}
use Rattle.paints.specs.Paints.{centre_of}
use Rattle.shadow.specs.Shadow.{corner_side}
use Rattle.draw.specs.Held.{Holds}
use Rattle.shadow.specs.Spans.{side_alpha, corner_ink}
use Rattle.shadow.proofs.Shade.corner_part.Goals as goal

pub returns : goal.returns
unfolding Holds corner_ink side_alpha
returns c =
    let a = c.args in
    let h = a.self in
    c.draw.ensures (corner_ink h a.qy)
    (λ x p q l u _ e.
    let drawn : q ≡ inked_of p (over p h.c (get_or c.corner_alphas-alphas.result (x - a.row.x0) 0)) = search rules in
    let same : a.row.x0 + (x - a.row.x0) ≡ x = omega arith in
    drawn ∙ ap (λ (v : ℕ). inked_of p (over p h.c v))
    (c.corner_alphas-alphas.ensures (x - a.row.x0) (omega arith) (omega arith) ∙ ap (λ (k : ℕ). corner_side h.s h.c.a h.blur a.qy (centre_of k)) same))
