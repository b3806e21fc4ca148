-- `text::picture::picture` meets its contract. The first i bytes are the text's. Assumes nothing.
use Rattle.std.proofs.Common.{◌≡◌, take}
use Rattle.text.specs.Picture.{byte_of, table}
use Rattle.text.proofs.picture.picture.Given as goal

abbrev pub invariant-loop-i : goal.invariant-loop-i
invariant-loop-i l = take l.i l.out ≡ table (byte_of l.w l.px) l.i
