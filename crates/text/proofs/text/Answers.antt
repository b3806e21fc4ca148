-- `text::text` meets its contract. Assumes nothing.
use mathlib.Core.Path.{sym}
use native.Mathlib.Omega.{arith}
use lib.Seq.{length-take-le}
use Rattle.text.specs.Text.{text_of}
use Rattle.text.proofs.Runs.{put_counts}
use Rattle.text.proofs.text.Goals as goal

pub slice_bounds-shown-end-2 : goal.slice_bounds-shown-end-2
slice_bounds-shown-end-2 c = sym (length-take-le _ _ c.lent-k.ensures.1)

pub shown-requires : goal.shown-requires
shown-requires c =
    let n = length-take-le _ c.args.px.now c.lent-k.ensures.1 in
    (rw n (omega (arith, c.requires.0, c.lent-k.ensures.1)), c.requires.1)

pub returns : goal.returns
unfolding text_of
returns c =
    let n = length-take-le _ c.args.px.now c.lent-k.ensures.1 in
    let put = rw (n, c.lent-k.ensures.0) at c.shown.ensures in
    record { put = put; prefix_len = put_counts put }
