-- `mathf::whole::floor_i` meets its contract. Assumes nothing.
use Rattle.std.proofs.Common.{◌∙◌, inl, arith, w32}
use lib.Ieee.{of_bits, of_int}
use Rattle.mathf.specs.Whole.{floor_of}
use mir.Facts.{to_z_pos}
use Rattle.mathf.proofs.Saturating.{passed}
use Rattle.mathf.proofs.Floors.{counted, small}
use Rattle.mathf.proofs.Bounds.{signed_as}
use Rattle.mathf.proofs.whole.floor_i.Goals as goal

pub cut-requires : goal.cut-requires
unfolding of_bits
cut-requires c = record { not_negative = inl (passed c.if-x.true); in_range = passed c.if-x-2.true }

pub overflow_cast-result : goal.overflow_cast-result
overflow_cast-result c = omega (arith, counted _ _ c.cut.ensures)

pub returns-then-x-2 : goal.returns-then-x-2
unfolding of_bits of_int
returns-then-x-2 c =
    let x = c.args.x in
    let few = counted x c.cut.result c.cut.ensures in
    to_z_pos w32 (omega (arith, few))
    ∙ signed_as (floor_of x) c.cut.result (omega (arith, few)) (small x c.cut.result c.if-x.true c.if-x-2.true c.cut.ensures)
