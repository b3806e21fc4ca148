-- Bytes put into a buffer, one run after the other. Assumes nothing.
use Prim.Native.Nat.{ℕ, ◌+◌, ◌≤◌, ◌<◌}
use mathlib.Core.List.{List, [], ◌++◌, append_assoc, append-nil}
use mathlib.Core.Path.{◌≡◌, sym, ◌∙◌}
use native.Mathlib.Nat.{zero-add, add-zero, add_assoc}
use native.Mathlib.Omega.{arith}
use borrow.Author.Tests.{le-leb, lt-leb}
use lib.ListN.{length, take, drop, length-append, length-drop, take-append-drop}
use lib.Seq.{length-take-le, take_at, drop_at, drop-drop}
use Rattle.encode.specs.Placed.{placed}

module _ (at : ℕ) (x buf : List ℕ) where
  pub placed_fits : at + length x ≤ length buf → placed at x buf ≡ take at buf ++ x ++ drop (at + length x) buf
  unfolding placed
  placed_fits h = rw (le-leb (at + length x) (length buf) h)

  pub placed_long : length buf < at + length x → placed at x buf ≡ buf
  unfolding placed
  placed_long h = rw (lt-leb (at + length x) (length buf) h)

  -- what stands before the place, and the bytes
  head_length : at + length x ≤ length buf → length (take at buf ++ x) ≡ at + length x
  head_length h = simp (length-append, length-take-le at buf (omega arith))

  pub length_fits : at + length x ≤ length buf → length (placed at x buf) ≡ length buf
  length_fits h = rw (placed_fits h) (simp (length-append, length-take-le at buf (omega arith), length-drop) (omega arith))

-- no bytes
pub placed_none : (at : ℕ) (buf : List ℕ) → at ≤ length buf → placed at [] buf ≡ buf
placed_none at buf h =
    placed_fits at [] buf (omega (arith, add-zero at)) ∙ rw (add-zero at, append-nil (take at buf)) (take-append-drop at buf)

-- from the start
pub placed_first : (x buf : List ℕ) → length x ≤ length buf → placed 0 x buf ≡ x ++ drop (length x) buf
placed_first x buf h = placed_fits 0 x buf (omega arith) ∙ rw (zero-add (length x))

-- one run, and then the next
pub placed_more : (at : ℕ) (x y buf : List ℕ) → at + length x + length y ≤ length buf
    → placed (at + length x) y (placed at x buf) ≡ placed at (x ++ y) buf
placed_more at x y buf h =
    let n = at + length x in
    let one : at + length x ≤ length buf = omega arith in
    let p = take at buf ++ x in
    let e : length p ≡ n = head_length at x buf one in
    let both : at + length (x ++ y) ≤ length buf = rw (length-append x y) (omega arith) in
    let room : n + length y ≤ length (p ++ drop n buf) = rw (← placed_fits at x buf one, length_fits at x buf one) h in
    rw (placed_fits at x buf one)
    (placed_fits n y (p ++ drop n buf) room
    ∙ rw (take_at p (drop n buf) n e, ← drop-drop (length y) n (p ++ drop n buf), drop_at p (drop n buf) n e, drop-drop (length y) n buf)
    (sym (placed_fits at (x ++ y) buf both ∙ rw (length-append x y, ← append_assoc (take at buf) x y, ← add_assoc at (length x) (length y)))))
