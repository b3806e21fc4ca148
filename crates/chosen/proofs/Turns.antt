-- A sheet's header and items, by their length. Assumes nothing.
use Prim.Native.Nat.{ℕ, ◌≤◌}
use mathlib.Core.List.{List}
use mathlib.Core.Path.{◌≡◌}
use native.Mathlib.Omega.{arith}
use lib.ListN.{length, take, drop, length-take, length-drop}
use lib.Seq.{length-take-le}
use Rattle.sheet.specs.Check.{offset_of, length_of, bytes_at}

pub first_eight : (s : List ℕ) → 12 ≤ length s → length (take 8 s) ≡ 8
first_eight s h = length-take-le 8 s (omega arith)

-- the bytes b are those of the item k
pub item_short : (s : List ℕ) (k : ℕ) (b : List ℕ) → b ≡ bytes_at s k → length b ≤ length s
item_short s k b e =
    let rest = drop (offset_of s k) s in
    rw e (omega (arith, length-take (length_of s k) rest, length-drop (offset_of s k) s))
