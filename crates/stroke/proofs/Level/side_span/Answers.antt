-- `Level::side_span` meets its contract. Assumes nothing.
use Rattle.std.proofs.Common.{rules}
use Rattle.draw.specs.Held.{Holds}
use Rattle.stroke.specs.Stroke.{band_ink}
use Rattle.stroke.proofs.Level.side_span.Goals as goal

pub returns : goal.returns
unfolding band_ink Holds
returns c =
    let o = c.args.self.now.o in
    c.draw.ensures (band_ink o.s o.width o.c) (λ x p q a b w e. let k = c.requires.holds x a b in search rules)
