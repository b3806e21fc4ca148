-- `Level::corner_cover` meets its contract. Assumes nothing.
use Rattle.stroke.proofs.Blanks.{near_blank}
use Rattle.stroke.proofs.Level.corner_cover.Goals as goal

pub returns-then-d-self : goal.returns-then-d-self
returns-then-d-self c = let l = c.args.self in near_blank l.o.s.r l.o.width l.o.near c.args.qx l.qy l.o.inside c.if-d-self.true
