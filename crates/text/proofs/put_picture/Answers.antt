-- `text::put_picture` meets its contract. Assumes nothing.
use Prim.Native.Nat.{◌*◌}
use mathlib.Core.Path.{sym}
use native.Mathlib.Omega.{arith}
use lib.ListN.{length}
use lib.Seq.{length-take-le}
use Rattle.text.proofs.Runs.{length_picture}
use Rattle.text.proofs.put_picture.Goals as goal

pub slice_bounds-picture-end-2 : goal.slice_bounds-picture-end-2
slice_bounds-picture-end-2 c =
    sym (length-take-le (9 * length c.args.px.now) c.args.out.now c.requires.1)

pub picture-requires : goal.picture-requires
picture-requires c =
    record { w_nonzero = omega (arith, c.requires.0); out_len = length-take-le (9 * length c.args.px.now) c.args.out.now c.requires.1 }

pub returns : goal.returns
returns c =
    let long = length_picture c.args.w c.args.px.now in
    record { long = sym long; puts = rw (c.picture.ensures, long) }
