-- What is known of a sheet that is accepted, for whoever reads it, draws it or compares it. Assumes nothing.
use Prim.Native.Nat.{ℕ, zero, suc, ◌+◌, ◌-◌, ◌*◌, ◌<◌, ◌≤◌, zero-le}
use mathlib.Core.Path.{◌≡◌, refl, ap, subst}
use mathlib.Core.Bool.{Bool, true, false, not, ◌&&◌, ◌||◌, cond}
use mathlib.Core.List.{List}
use mathlib.Core.Logic.{⊎_elim}
use native.Mathlib.Nat.{eq-or-lt_of_le}
use native.Mathlib.Numerals.{add-one}
use native.Mathlib.Omega.{arith}
use lib.ListN.{length}
use lib.Dec.{ltb, leb, eqb, eqb-suc-zero}
use borrow.Author.Tests.{leb-true, ltb-true, eqb-true, eq-eqb}
use Rattle.geom.proofs.Bools.{and_left, and_right}
use Rattle.geom.proofs.Refusals.{passed}
use Rattle.sheet.specs.Bytes.{zeros}
use Rattle.sheet.specs.Kinds.{kind_at, points_at, layout_at, length_ok, points_ok, bytes_ok, floats_ok, saved_ok, item_number}
use Rattle.sheet.specs.Check.{width_of, height_of, count_of, offset_of, length_of, size_ok, side_ok, header_ok, pairs_from, pairs_ok, head_number, number_at, depth_at, verdict, items_from, sheet_check}
use Rattle.sheet.specs.Check.{Verdict}

-- ---- header and pairs

pub record Accepted (s : List ℕ) : Type 0 where
  pub size : length s ≤ 60000
  pub header : header_ok s ≡ true
  pub width : side_ok (width_of s) ≡ true
  pub height : side_ok (height_of s) ≡ true
  pub count : count_of s ≤ 1024
  pub pairs : pairs_ok s ≡ true
  pub items : items_from s (count_of s) 0 0 ≡ verdict 0 0

number_of : {number item : ℕ} → verdict number item ≡ verdict 0 0 → number ≡ 0
number_of e = ap (λ (v : Verdict). v.number) e

-- where what has a number stops and the whole has none, it has none, nor has the rest
no_stop : (number item : ℕ) (rest : Verdict) → cond (eqb number 0) rest (verdict number item) ≡ verdict 0 0
    → (number ≡ 0) × (rest ≡ verdict 0 0)
no_stop zero item rest e = (refl, e)
no_stop (suc n) item rest e = absurd (omega (arith, number_of (simp eqb-suc-zero at e)))

pub accepted : (s : List ℕ) → sheet_check s ≡ verdict 0 0 → Accepted s
unfolding sheet_check head_number header_ok
accepted s e =
    let whole = no_stop (head_number s) 0 (items_from s (count_of s) 0 0) e in
    let size = passed (size_ok s) 0 _ whole.0 in
    let header = passed (header_ok s) 1 _ size.1 in
    let pairs = passed (pairs_ok s) 2 _ header.1 in
    let counted = and_left _ (zeros s 7 1) (and_left _ (zeros s 10 2) header.0) in
    let sides = and_left _ (leb (count_of s) 1024) counted in
    record {
      size = leb-true _ _ (and_right (leb 12 (length s)) (leb (length s) 60000) size.0);
      header = header.0;
      width = and_left (side_ok (width_of s)) _ sides;
      height = and_right (side_ok (width_of s)) (side_ok (height_of s)) sides;
      count = leb-true _ _ (and_right (side_ok (width_of s) && side_ok (height_of s)) (leb (count_of s) 1024) counted);
      pairs = pairs.0;
      items = whole.1;
    }

-- pairs that run from `at` on: `at` lies in the sheet, and each item of them does
run_start : (s : List ℕ) (left k at : ℕ) → pairs_from s left k at ≡ true → at ≤ length s
unfolding pairs_from
run_start s zero k at e = omega (arith, eqb-true at (length s) e)
run_start s (suc left) k at e = omega (arith, run_start s left (k + 1) (at + length_of s k) (and_right (eqb (offset_of s k) at) _ e))

run_inside : (s : List ℕ) (left k at j : ℕ) → pairs_from s left k at ≡ true → k ≤ j → j < k + left → offset_of s j + length_of s j ≤ length s
unfolding pairs_from
run_inside s zero k at j e l h = absurd (omega arith)
run_inside s (suc left) k at j e l h =
    let here = eqb-true (offset_of s k) at (and_left _ (pairs_from s left (k + 1) (at + length_of s k)) e) in
    let rest = and_right (eqb (offset_of s k) at) _ e in
    ⊎_elim
    (λ q. rw (← q) (omega (arith, here, run_start s left (k + 1) (at + length_of s k) rest)))
    (λ q. run_inside s left (k + 1) (at + length_of s k) j rest (omega arith) (omega arith))
    (eq-or-lt_of_le l)

-- the pairs lie in the sheet, and so does the item k
pub pairs_inside : (s : List ℕ) → pairs_ok s ≡ true → 12 + 4 * count_of s ≤ length s
unfolding pairs_ok
pairs_inside s e = run_start s (count_of s) 0 (12 + 4 * count_of s) e

pub item_inside : (s : List ℕ) (k : ℕ) → pairs_ok s ≡ true → k < count_of s → offset_of s k + length_of s k ≤ length s
unfolding pairs_ok
item_inside s k e h = run_inside s (count_of s) 0 (12 + 4 * count_of s) k e zero-le (omega arith)

-- ---- items

-- how many clips are saved before the item k
unfoldable pub depth_before : List ℕ → ℕ → ℕ
depth_before s zero = 0
depth_before s (suc k) = depth_at s k (depth_before s k)

pub depth_next : (s : List ℕ) (k : ℕ) → depth_before s (k + 1) ≡ depth_at s k (depth_before s k)
unfolding depth_before
depth_next s k = rw add-one

-- an item that has no number
pub record AcceptedItem (s : List ℕ) (k : ℕ) : Type 0 where
  pub inside : offset_of s k + length_of s k ≤ length s
  pub long : length_ok s (offset_of s k) (length_of s k) ≡ true
  pub points : points_ok s (offset_of s k) ≡ true
  pub bytes : bytes_ok s (offset_of s k) ≡ true
  pub floats : floats_ok s (offset_of s k) ≡ true
  pub saved : saved_ok s (offset_of s k) (depth_before s k) ≡ true
  pub depth : depth_before s k ≤ 16

sound : (s : List ℕ) (k : ℕ) → offset_of s k + length_of s k ≤ length s → number_at s k (depth_before s k) ≡ 0 → depth_before s k ≤ 16 → AcceptedItem s k
unfolding number_at item_number
sound s k h e d =
    let long = passed (length_ok s (offset_of s k) (length_of s k)) 3 _ e in
    let points = passed (points_ok s (offset_of s k)) 12 _ long.1 in
    let bytes = passed (bytes_ok s (offset_of s k)) 4 _ points.1 in
    let floats = passed (floats_ok s (offset_of s k)) 5 _ bytes.1 in
    let saved = passed (saved_ok s (offset_of s k) (depth_before s k)) 6 0 floats.1 in
    record { inside = h; long = long.0; points = points.0; bytes = bytes.0; floats = floats.0; saved = saved.0; depth = d }

-- it leaves at most 16 clips saved
after : (push pop : Bool) (depth : ℕ) → not push || ltb depth 16 ≡ true → depth ≤ 16 → cond push (depth + 1) (cond pop (depth - 1) depth) ≤ 16
after true pop depth e h = omega (arith, ltb-true depth 16 e)
after false true depth e h = omega arith
after false false depth e h = h

sound_after : (s : List ℕ) (k : ℕ) → AcceptedItem s k → depth_before s (k + 1) ≤ 16
unfolding depth_at saved_ok
sound_after s k a =
    rw (depth_next s k) (after (eqb (kind_at s (offset_of s k)) 1) (eqb (kind_at s (offset_of s k)) 2) (depth_before s k) a.saved a.depth)

from_on : (s : List ℕ) (left k j : ℕ) → items_from s left k (depth_before s k) ≡ verdict 0 0 → depth_before s k ≤ 16 → pairs_ok s ≡ true
    → k + left ≡ count_of s → k ≤ j → j < count_of s → AcceptedItem s j
unfolding items_from
from_on s zero k j e d r n l h = absurd (omega arith)
from_on s (suc left) k j e d r n l h =
    let both = no_stop (number_at s k (depth_before s k)) (k + 1) (items_from s left (k + 1) (depth_at s k (depth_before s k))) e in
    let here = sound s k (item_inside s k r (omega arith)) both.0 d in
    ⊎_elim
    (λ q. subst (λ (i : ℕ). AcceptedItem s i) q here)
    (λ q. from_on s left (k + 1) j (rw (depth_next s k) both.1) (sound_after s k here) r (omega arith) (omega arith) h)
    (eq-or-lt_of_le l)

pub accepted_item : (s : List ℕ) (k : ℕ) → sheet_check s ≡ verdict 0 0 → k < count_of s → AcceptedItem s k
unfolding depth_before
accepted_item s k e h =
    let a = accepted s e in
    from_on s (count_of s) 0 k a.items (omega arith) a.pairs (omega arith) zero-le h

-- what the rule of lengths says: a known kind, and its length
pub record Sized (s : List ℕ) (at len : ℕ) : Type 0 where
  pub low : 1 ≤ kind_at s at
  pub high : kind_at s at ≤ 8
  pub four : 4 ≤ len
  pub exact : len ≡ (layout_at s at).length

pub sized : (s : List ℕ) (at len : ℕ) → length_ok s at len ≡ true → Sized s at len
unfolding length_ok
sized s at len long =
    let kind = kind_at s at in
    let first = and_left _ (eqb len (layout_at s at).length) long in
    let known = and_left _ (leb 4 len) first in
    record {
      low = leb-true _ _ (and_left _ (leb kind 8) known);
      high = leb-true _ _ (and_right (leb 1 kind) _ known);
      four = leb-true _ _ (and_right (leb 1 kind && leb kind 8) _ first);
      exact = eqb-true _ _ (and_right (leb 1 kind && leb kind 8 && leb 4 len) _ long);
    }

-- what an item's tests say
module _ (s : List ℕ) (k : ℕ) (a : AcceptedItem s k) where
  pub kind_known : (1 ≤ kind_at s (offset_of s k)) × (kind_at s (offset_of s k) ≤ 8)
  kind_known = let z = sized s (offset_of s k) (length_of s k) a.long in (z.low, z.high)

  pub length_is : length_of s k ≡ (layout_at s (offset_of s k)).length
  length_is = (sized s (offset_of s k) (length_of s k) a.long).exact

  -- of a polygon or a chain
  pub few_points : eqb (kind_at s (offset_of s k)) 6 || eqb (kind_at s (offset_of s k)) 8 ≡ true → points_at s (offset_of s k) ≤ 64
  unfolding points_ok
  few_points e = leb-true _ _ (simp e at a.points)

  pub push_room : kind_at s (offset_of s k) ≡ 1 → depth_before s k < 16
  unfolding saved_ok
  push_room e = ltb-true _ _ (simp (eq-eqb (kind_at s (offset_of s k)) 1 e) at a.saved)
