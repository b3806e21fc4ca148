-- The number and the item that a sheet is refused with (document 01, "Number and item returned"): 1, 2, 3; then per item 4, 13,
-- 5, 6, 7.
use Rattle.std.specs.Prelude.{ℕ, zero, suc, ◌+◌, ◌*◌, List, Bool, ◌&&◌, cond, length, take, drop, leb, eqb, ⊤, Ok, Err}
use Rattle.std.specs.declared.result.Result.{Result}
use Rattle.geom.specs.declared.checks.Refusal.{Refusal}
use Rattle.geom.specs.Refusals.{unless, code}
use Rattle.sheet.specs.Bytes.{u16_at, zeros}
use Rattle.sheet.specs.Kinds.{kind_at, item_number, depth_after}
use Rattle.sheet.specs.declared.check.Fault.{Fault}

-- the header: width, height, count of items; and the pair of the item k, counted from 0
abbrev pub width_of : List ℕ → ℕ
width_of s = u16_at s 0

abbrev pub height_of : List ℕ → ℕ
height_of s = u16_at s 2

abbrev pub count_of : List ℕ → ℕ
count_of s = u16_at s 8

abbrev pub offset_of : List ℕ → ℕ → ℕ
offset_of s k = u16_at s (12 + 4 * k)

abbrev pub length_of : List ℕ → ℕ → ℕ
length_of s k = u16_at s (14 + 4 * k)

-- the bytes of the item k
abbrev pub bytes_at : List ℕ → ℕ → List ℕ
bytes_at s k = take (length_of s k) (drop (offset_of s k) s)

-- 1: 12 to 60,000 bytes
abbrev pub size_ok : List ℕ → Bool
size_ok s = leb 12 (length s) && leb (length s) 60000

-- 2: sides of 1 to 2,048, at most 1,024 items, and the zero bytes
abbrev pub side_ok : ℕ → Bool
side_ok n = leb 1 n && leb n 2048

unfoldable pub header_ok : List ℕ → Bool
header_ok s = side_ok (width_of s) && side_ok (height_of s) && leb (count_of s) 1024 && zeros s 7 1 && zeros s 10 2

-- `left` pairs from that of the item k on: its offset is `at`, each next is the last plus its length, and the last item ends the
-- sheet
unfoldable pub pairs_from : List ℕ → ℕ → ℕ → ℕ → Bool
pairs_from s zero k at = eqb at (length s)
pairs_from s (suc left) k at = eqb (offset_of s k) at && pairs_from s left (k + 1) (at + length_of s k)

-- 3: the pairs run from the first offset, 12 + 4n
unfoldable pub pairs_ok : List ℕ → Bool
pairs_ok s = pairs_from s (count_of s) 0 (12 + 4 * count_of s)

unfoldable pub head_number : List ℕ → ℕ
head_number s = unless (size_ok s) 1 (unless (header_ok s) 2 (unless (pairs_ok s) 3 0))

-- the number of the item k where `depth` clips are saved, and how many are saved after it
unfoldable pub number_at : List ℕ → ℕ → ℕ → ℕ
number_at s k depth = item_number s (offset_of s k) (length_of s k) depth

unfoldable pub depth_at : List ℕ → ℕ → ℕ → ℕ
depth_at s k depth = depth_after (kind_at s (offset_of s k)) depth

-- what a sheet is refused with: the number, and the item, counted from 1; 0 where there is none
pub record Verdict : Type 0 where
  pub number : ℕ
  pub item : ℕ

abbrev pub verdict : ℕ → ℕ → Verdict
verdict number item = record { number = number; item = item }

-- the first of the `left` items from k on that has a number, counted from 1
unfoldable pub items_from : List ℕ → ℕ → ℕ → ℕ → Verdict
items_from s zero k depth = verdict 0 0
items_from s (suc left) k depth =
    cond (eqb (number_at s k depth) 0) (items_from s left (k + 1) (depth_at s k depth)) (verdict (number_at s k depth) (k + 1))

-- the whole sheet
unfoldable pub sheet_check : List ℕ → Verdict
sheet_check s = cond (eqb (head_number s) 0) (items_from s (count_of s) 0 0) (verdict (head_number s) 0)

-- a refusal at no item, and at the item k, counted from 0
abbrev pub at_header : Refusal → Fault
at_header refusal = record { refusal = refusal; item = 0 }

abbrev pub at_item : Refusal → ℕ → Fault
at_item refusal k = record { refusal = refusal; item = k + 1 }

-- the number and the item of what the check returns, both 0 where it accepts
abbrev pub verdict_of : Result ⊤ Fault → Verdict
verdict_of (Ok u) = verdict 0 0
verdict_of (Err f) = verdict (code f.refusal) f.item
