-- `poly::outline::point_from` meets its contract. Assumes nothing.
use mathlib.Core.Path.{◌∙◌}
use native.Mathlib.Omega.{arith}
use Rattle.bounds.proofs.Signs.{back}
use Rattle.poly.specs.Poly.{point_from}
use Rattle.poly.proofs.outline.point_from.Goals as goal

pub returns : goal.returns
unfolding point_from
returns c =
    let g = c.args.g in
    c.new.ensures ∙ rw (c.point_at-p.ensures, back g.ox (omega (arith, c.requires.1.left)), back g.oy (omega (arith, c.requires.1.top)))
