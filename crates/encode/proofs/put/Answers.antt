-- `encode::put` meets its contract. Assumes nothing.
use Rattle.std.proofs.Common.{◌≡◌, ◌+◌, ◌-◌, ◌<◌, length, sym, arith, append_assoc}
use lib.Seq.{drop-drop}
use Rattle.encode.proofs.Placing.{placed_fits, placed_long}
use Rattle.encode.proofs.put.Goals as goal
use Rattle.encode.proofs.put.Goals.{else-at-buf-via-then-at-buf+else-n-buf, else-at-buf-via-else-at-buf}

pub returns-then-n-buf : goal.returns-then-n-buf
returns-then-n-buf c =
    let at = c.args.at in
    let bytes = c.args.bytes.now in
    let buf = c.args.buf.now in
    let n : at + length bytes - at ≡ length bytes = omega arith in
    rw (n, c.copy_from_slice.ensures.after, placed_fits at bytes buf (omega arith), drop-drop (length bytes) at buf, append_assoc)

pub returns-else-at-buf : goal.returns-else-at-buf
returns-else-at-buf c =
    let long : length c.args.buf.now < c.args.at + length c.args.bytes.now = elim c.else-at-buf.branch [
      | else-at-buf-via-then-at-buf+else-n-buf w ↦ omega arith
      | else-at-buf-via-else-at-buf w ↦ omega arith
    ] in
    sym (placed_long c.args.at c.args.bytes.now c.args.buf.now long)
