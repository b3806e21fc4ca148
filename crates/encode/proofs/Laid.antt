-- What a sheet that is laid out from its items says of them: its pairs run, each item is found again, and a sheet whose items have no number
-- by their own bytes has none. Assumes nothing.
use Prim.Native.Nat.{ℕ, ◌+◌, ◌*◌, ◌/◌, ◌%◌, ◌≤◌, ◌<◌}
use mathlib.Core.Bool.{true}
use mathlib.Core.List.{List, [], ◌∷◌, ◌++◌}
use mathlib.Core.Path.{◌≡◌, refl, sym, ap, ◌∙◌}
use native.Mathlib.Omega.{arith}
use borrow.Author.Tests.{eq-eqb, le-leb}
use lib.ListN.{length, get_or, take, drop, length-append}
use lib.Seq.{get_or-drop, drop-drop, take-append_seam, drop-append_seam, drop_at, get_or-append-add}
use Rattle.geom.proofs.Bools.{and_both}
use Rattle.sheet.specs.Bytes.{byte_at}
use Rattle.sheet.specs.Kinds.{kind_at, item_number, depth_after}
use Rattle.sheet.specs.Check.{count_of, offset_of, length_of, bytes_at, size_ok, header_ok, pairs_from, pairs_ok, head_number, number_at, depth_at, verdict, items_from, sheet_check}
use Rattle.sheet.proofs.Local.{number_own, kind_own}
use Rattle.encode.specs.Encode.{u16, pairs, joined, encoded}

-- the bytes of the items
unfoldable pub total : List (List ℕ) → ℕ
total [] = 0
total (b ∷ bs) = length b + total bs

pub length_pairs : (at : ℕ) (its : List (List ℕ)) → length (pairs at its) ≡ 4 * length its
unfolding pairs
length_pairs at [] = refl
length_pairs at (b ∷ bs) = omega (arith, length_pairs (at + length b) bs)

pub length_joined : (its : List (List ℕ)) → length (joined its) ≡ total its
unfolding joined total
length_joined [] = refl
length_joined (b ∷ bs) = rw (length-append b (joined bs), length_joined bs)

-- the items, each by its own bytes, have no number where `depth` clips are saved before them
unfoldable pub Sound : List (List ℕ) → ℕ → Type 0
Sound [] depth = Unit {0}
Sound (b ∷ bs) depth = (item_number b 0 (length b) depth ≡ 0) × (4 ≤ length b) × Sound bs (depth_after (kind_at b 0) depth)

-- a number below 65,536 from its two bytes
pub two_bytes : (n : ℕ) → n < 65536 → n % 256 + 256 * (n / 256 % 256) ≡ n
two_bytes n h = omega arith

module _ (s : List ℕ) (small : length s ≤ 60000) where
  -- the items `its` are those of s from the item k on, whose bytes start at `at`
  pub record Laid (its : List (List ℕ)) (k at : ℕ) (rest : List ℕ) : Type 0 where
    pub pairs_at : drop (12 + 4 * k) s ≡ pairs at its ++ rest
    pub items_at : drop at s ≡ joined its
    pub ends : at + total its ≡ length s

  module _ (b : List ℕ) (bs : List (List ℕ)) (k at : ℕ) (rest : List ℕ) (l : Laid (b ∷ bs) k at rest) where
    -- the byte i past the start of the pair
    pair_byte : (i j : ℕ) → 12 + 4 * k + i ≡ j → byte_at s j ≡ get_or (pairs at (b ∷ bs) ++ rest) i 0
    pair_byte i j e = ap (λ (n : ℕ). get_or s n 0) (sym e) ∙ sym (get_or-drop (12 + 4 * k) s i 0) ∙ ap (λ (x : List ℕ). get_or x i 0) l.pairs_at

    sized : at + length b + total bs ≡ length s
    unfolding total
    sized = omega (arith, l.ends)

    pub laid_offset : offset_of s k ≡ at
    unfolding pairs
    laid_offset =
        rw (pair_byte 0 (12 + 4 * k) (omega arith), pair_byte 1 (12 + 4 * k + 1) refl)
        (two_bytes at (omega (arith, sized)))

    pub laid_length : length_of s k ≡ length b
    unfolding pairs
    laid_length =
        rw (pair_byte 2 (14 + 4 * k) (omega arith), pair_byte 3 (14 + 4 * k + 1) (omega arith))
        (two_bytes (length b) (omega (arith, sized)))

    pub laid_bytes : bytes_at s k ≡ b
    unfolding joined
    laid_bytes = rw (laid_offset, laid_length, l.items_at) (take-append_seam b (joined bs))

    pub laid_next : Laid bs (k + 1) (at + length b) rest
    unfolding pairs joined
    laid_next =
        let e : 12 + 4 * (k + 1) ≡ 12 + 4 * k + 4 = omega arith in
        record {
          pairs_at = rw (e, ← drop-drop 4 (12 + 4 * k) s, l.pairs_at);
          items_at = rw (← drop-drop (length b) at s, l.items_at) (drop-append_seam b (joined bs));
          ends = sized;
        }

  -- the pairs run
  pub laid_pairs : (its : List (List ℕ)) (k at : ℕ) (rest : List ℕ) → Laid its k at rest → pairs_from s (length its) k at ≡ true
  unfolding pairs_from total
  laid_pairs [] k at rest l = eq-eqb at (length s) (omega (arith, l.ends))
  laid_pairs (b ∷ bs) k at rest l =
      rw (eq-eqb (offset_of s k) at (laid_offset b bs k at rest l), laid_length b bs k at rest l)
      (laid_pairs bs (k + 1) (at + length b) rest (laid_next b bs k at rest l))

  -- no item has a number
  pub laid_check : (its : List (List ℕ)) (k at : ℕ) (rest : List ℕ) (depth : ℕ) → Laid its k at rest → Sound its depth
      → items_from s (length its) k depth ≡ verdict 0 0
  unfolding items_from Sound number_at depth_at
  laid_check [] k at rest depth l h = refl
  laid_check (b ∷ bs) k at rest depth l h =
      let o = laid_offset b bs k at rest l in
      let n = laid_length b bs k at rest l in
      let own : take (length b) (drop at s) ≡ b = rw (← o, ← n) (laid_bytes b bs k at rest l) in
      let zero_number : item_number s at (length b) depth ≡ 0 = number_own s at (length b) depth (rw own h.0) in
      let same_kind : kind_at s at ≡ kind_at b 0 = sym (kind_own s at (length b) h.1) ∙ ap (λ (x : List ℕ). kind_at x 0) own in
      rw (o, n, zero_number, same_kind) (laid_check bs (k + 1) (at + length b) rest (depth_after (kind_at b 0) depth) (laid_next b bs k at rest l) h.2)

-- ---- the whole sheet

module _ (head : List ℕ) (its : List (List ℕ)) (eight : length head ≡ 8) where
  -- what stands after the first 8 bytes
  abbrev rest : List ℕ
  rest = u16 (length its) ++ (0 ∷ 0 ∷ pairs (12 + 4 * length its) its ++ joined its)

  pub encoded_length : length (encoded head its) ≡ 12 + 4 * length its + total its
  unfolding encoded
  encoded_length = simp (length-append, eight, length_pairs, length_joined) (omega arith)

  -- the byte i past the first 8
  pub encoded_byte : (i j : ℕ) → 8 + i ≡ j → get_or (encoded head its) j 0 ≡ get_or rest i 0
  unfolding encoded
  encoded_byte i j e = rw (← e, ← eight) (get_or-append-add head rest i 0)

  pub encoded_count : length its < 65536 → count_of (encoded head its) ≡ length its
  encoded_count h = rw (encoded_byte 0 8 refl, encoded_byte 1 9 refl) (two_bytes (length its) h)

  pub encoded_laid : (small : length (encoded head its) ≤ 60000) → Laid (encoded head its) small its 0 (12 + 4 * length its) (joined its)
  unfolding encoded
  encoded_laid small = record { pairs_at = after_head; items_at = after_pairs; ends = sym encoded_length }
    where
      after_head : drop 12 (head ++ rest) ≡ pairs (12 + 4 * length its) its ++ joined its
      after_head = sym (drop-drop 4 8 (head ++ rest)) ∙ ap (drop 4) (drop_at head rest 8 eight)

      after_pairs : drop (12 + 4 * length its) (head ++ rest) ≡ joined its
      after_pairs =
          sym (drop-drop (4 * length its) 12 (head ++ rest)) ∙ ap (drop (4 * length its)) after_head
          ∙ drop_at (pairs (12 + 4 * length its) its) (joined its) (4 * length its) (length_pairs (12 + 4 * length its) its)

  -- a sheet whose header and items are in order is accepted
  pub encoded_check : length (encoded head its) ≤ 60000 → length its < 65536 → header_ok (encoded head its) ≡ true → Sound its 0
      → sheet_check (encoded head its) ≡ verdict 0 0
  unfolding sheet_check head_number pairs_ok
  encoded_check small few header sound =
      let l = encoded_laid small in
      let n = encoded_count few in
      let size : size_ok (encoded head its) ≡ true =
      and_both (le-leb 12 (length (encoded head its)) (omega (arith, encoded_length))) (le-leb (length (encoded head its)) 60000 small) in
      let runs = laid_pairs (encoded head its) small its 0 (12 + 4 * length its) (joined its) l in
      let checks = laid_check (encoded head its) small its 0 (12 + 4 * length its) (joined its) 0 l sound in
      rw (size, header, n, runs) checks
