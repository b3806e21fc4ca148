-- The items of an accepted sheet that stay, laid out as a sheet: it fits, each of them is in order, and it is read as the sheet without its
-- dead shapes. Assumes nothing.
use Prim.Native.Nat.{ℕ, zero, suc, ◌+◌, ◌*◌, ◌<◌, ◌≤◌}
use mathlib.Core.Path.{◌≡◌, refl, sym, ap, ◌∙◌}
use mathlib.Core.Bool.{true, false, ◌&&◌, false≢true}
use mathlib.Core.List.{List, [], ◌∷◌, map}
use native.Mathlib.Omega.{arith}
use borrow.Author.Tests.{le-leb, eqb-true}
use lib.Dec.{eqb, leb}
use lib.ListN.{length, take, drop, length-take, get_or-append}
use lib.Seq.{get_or-take, take_at, length-take-le}
use Rattle.geom.specs.declared.IRect.{IRect}
use Rattle.geom.proofs.Bools.{and_left, and_right, and_both}
use Rattle.sheet.specs.Bytes.{byte_at, all_at, zeros}
use Rattle.sheet.specs.Kinds.{kind_at, item_number, depth_after}
use Rattle.sheet.specs.Check.{width_of, height_of, count_of, length_of, offset_of, bytes_at, side_ok, header_ok, pairs_from, pairs_ok, depth_at, verdict, sheet_check}
use Rattle.sheet.proofs.Accepted.{accepted, accepted_item, pairs_inside, depth_before, depth_next}
use Rattle.sheet.proofs.Local.{kind_same, length_same, four_bytes, number_same}
use Rattle.encode.specs.Encode.{encoded}
use Rattle.encode.proofs.Laid.{total, Sound, Laid, laid_bytes, laid_next, encoded_length, encoded_byte, encoded_count, encoded_laid, encoded_check}
use Rattle.redraw.specs.Drawing as drawing
use Rattle.redraw.specs.Drawing.{Clips, only, after}
use Rattle.redraw.specs.Sheet.{canvas}
use Rattle.redraw.specs.Shed.{stays, shed, shed_of}
use Rattle.redraw.proofs.Shed.{shed_by}
use Rattle.items.specs.Items.{item_of}
use Rattle.items.specs.Format.{kind, drawn_as, item_in, bytes_of, items_from, sheet_of}
use Rattle.items.specs.declared.Item.{Item}
use Rattle.items.specs.declared.Item.TheVariants.{Push, Pop, Fill, Stroke, Line, Poly, Shadow, Chain, Unknown}
use Rattle.items.proofs.Lawful.{own}
use Rattle.items.proofs.Sound.{saved_after, saved_after_lem}
use Rattle.compact.specs.Compact.{kept_in, compacted}

abbrev Items : Type 0
Items = List (drawing.Item (List ℕ))

-- the first eight bytes of a sheet that has its first twelve
first_eight : (s : List ℕ) → 12 ≤ length s → length (take 8 s) ≡ 8
first_eight s h = length-take-le 8 s (omega arith)

-- an item that goes is a shape, so as many clips are saved after it as before it
goes_depth : (b : List ℕ) (i : Item) (clip : IRect) (depth : ℕ) → stays kind (drawn_as b i) clip ≡ false → saved_after i depth ≡ depth
unfolding stays drawn_as
goes_depth b (Push rect) clip depth e = absurd (false≢true (sym e))
goes_depth b Pop clip depth e = absurd (false≢true (sym e))
goes_depth b (Fill rect r paint) clip depth e = refl
goes_depth b (Stroke rect r width color) clip depth e = refl
goes_depth b (Line p q width color) clip depth e = refl
goes_depth b (Poly paint count) clip depth e = refl
goes_depth b (Shadow rect r blur color skip) clip depth e = refl
goes_depth b (Chain width color count) clip depth e = refl
goes_depth b Unknown clip depth e = refl

module _ (s : List ℕ) where
  -- the items from k on that stay, by their bytes
  abbrev bytes_from : ℕ → ℕ → Clips → List (List ℕ)
  bytes_from left k c = map bytes_of (shed kind (items_from s left k) c)

  -- ---- they are not more, and their bytes fit

  few_from : (left k : ℕ) (c : Clips) → length (bytes_from left k c) ≤ left
  unfolding items_from shed
  few_from zero k c = omega arith
  few_from (suc left) k c =
      let i = item_in (bytes_at s k) in
      let rest = few_from left (k + 1) (after i c) in
      shed_by kind (λ (l : Items). length (map bytes_of l) ≤ suc left) i (items_from s left (k + 1)) c (λ e. omega arith) (λ e. omega arith)

  fits_from : (left k at : ℕ) (c : Clips) → pairs_from s left k at ≡ true → at + total (bytes_from left k c) ≤ length s
  unfolding items_from shed pairs_from total
  fits_from zero k at c e = omega (arith, eqb-true at (length s) e)
  fits_from (suc left) k at c e =
      let b = bytes_at s k in
      let rest = fits_from left (k + 1) (at + length_of s k) (after (item_in b) c) (and_right (eqb (offset_of s k) at) _ e) in
      let long : length b ≤ length_of s k = omega (arith, length-take (length_of s k) (drop (offset_of s k) s)) in
      shed_by kind (λ (l : Items). at + total (map bytes_of l) ≤ length s) (item_in b) (items_from s left (k + 1)) c
      (λ p. rw (own b (item_of b)) (omega arith)) (λ p. omega arith)

  -- ---- each is read again as what it was

  read_from : (left k : ℕ) (c : Clips) → map item_in (bytes_from left k c) ≡ shed kind (items_from s left k) c
  unfolding items_from shed
  read_from zero k c = refl
  read_from (suc left) k c =
      let b = bytes_at s k in
      let rest = read_from left (k + 1) (after (item_in b) c) in
      shed_by kind (λ (l : Items). map item_in (map bytes_of l) ≡ l) (item_in b) (items_from s left (k + 1)) c
      (λ p. rw (own b (item_of b), rest)) (λ p. rest)

  -- ---- each is in order by its own bytes, after the clips that were saved before it in the sheet

  module _ (e : sheet_check s ≡ verdict 0 0) where
    sound_from : (left k : ℕ) (c : Clips) → k + left ≡ count_of s → Sound (bytes_from left k c) (depth_before s k)
    unfolding items_from shed Sound depth_at
    sound_from zero k c q = tt
    sound_from (suc left) k c q =
        let b = bytes_at s k in
        let d = depth_before s k in
        let a = accepted_item s k e (omega arith) in
        let rest = sound_from left (k + 1) (after (item_in b) c) (omega arith) in
        let next : depth_before s (k + 1) ≡ depth_after (kind_at b 0) d = depth_next s k ∙ ap (λ (n : ℕ). depth_after n d) (sym (kind_same s k a)) in
        let number : item_number b 0 (length b) d ≡ 0 = rw (length_same s k a) (number_same s k a) in
        let four : 4 ≤ length b = rw (length_same s k a) (four_bytes s k a) in
        shed_by kind (λ (l : Items). Sound (map bytes_of l) d) (item_in b) (items_from s left (k + 1)) c
        (λ p. rw (own b (item_of b)) (number, four, rw next at rest))
        (λ p. rw (next ∙ saved_after_lem b 0 d ∙ goes_depth b (item_of b) c.clip d p) at rest)

-- ---- the sheet that they make

-- a sheet laid out from items has these items
laid_items : (s : List ℕ) (small : length s ≤ 60000) (its : List (List ℕ)) (k at : ℕ) (rest : List ℕ) → Laid s small its k at rest
    → items_from s (length its) k ≡ map item_in its
unfolding items_from
laid_items s small [] k at rest l = refl
laid_items s small (b ∷ bs) k at rest l =
    rw (laid_bytes s small b bs k at rest l, laid_items s small bs (k + 1) (at + length b) rest (laid_next s small b bs k at rest l))

module _ (s : List ℕ) (e : sheet_check s ≡ verdict 0 0) where
  abbrev first : Clips
  first = only (canvas (sheet_of s))

  long : 12 + 4 * count_of s ≤ length s
  long = pairs_inside s (accepted s e).pairs

  eight : length (take 8 s) ≡ 8
  eight = first_eight s (omega (arith, long))

  few : length (kept_in s) ≤ count_of s
  unfolding kept_in
  few = few_from s (count_of s) 0 first

  few_items : length (kept_in s) < 65536
  few_items = omega (arith, few, (accepted s e).count)

  fits : 12 + 4 * count_of s + total (kept_in s) ≤ length s
  unfolding kept_in pairs_ok
  fits = fits_from s (count_of s) 0 (12 + 4 * count_of s) first (accepted s e).pairs

  pub shorter : length (compacted s) ≤ length s
  unfolding compacted
  shorter = omega (arith, encoded_length (take 8 s) (kept_in s) eight, few, fits)

  small : length (compacted s) ≤ 60000
  small = omega (arith, shorter, (accepted s e).size)

  -- bytes 0 to 7 are the sheet's
  pub byte_kept : (j : ℕ) → j < 8 → byte_at (compacted s) j ≡ byte_at s j
  unfolding compacted encoded
  byte_kept j h = get_or-append (take 8 s) _ 0 j (omega (arith, eight)) ∙ get_or-take 8 s j 0 h

  pub head_kept : take 8 (compacted s) ≡ take 8 s
  unfolding compacted encoded
  head_kept = take_at (take 8 s) _ 8 eight

  pub count_kept : count_of (compacted s) ≡ length (kept_in s)
  unfolding compacted
  count_kept = encoded_count (take 8 s) (kept_in s) eight few_items

  -- the two bytes after the count are zero
  zeros_after : (byte_at (compacted s) 10 ≡ 0) × (byte_at (compacted s) 11 ≡ 0)
  unfolding compacted
  zeros_after = (encoded_byte (take 8 s) (kept_in s) eight 2 10 refl, encoded_byte (take 8 s) (kept_in s) eight 3 11 refl)

  header : header_ok (compacted s) ≡ true
  unfolding header_ok all_at
  header =
      let a = accepted s e in
      let sides = side_ok (width_of s) && side_ok (height_of s) in
      let wide : side_ok (width_of (compacted s)) ≡ true = rw (byte_kept 0 (omega arith), byte_kept 1 (omega arith)) a.width in
      let high : side_ok (height_of (compacted s)) ≡ true = rw (byte_kept 2 (omega arith), byte_kept 3 (omega arith)) a.height in
      let count : leb (count_of (compacted s)) 1024 ≡ true = le-leb (count_of (compacted s)) 1024 (omega (arith, count_kept, few, a.count)) in
      let seven = and_right (sides && leb (count_of s) 1024) (zeros s 7 1) (and_left _ (zeros s 10 2) a.header) in
      let zero : zeros (compacted s) 7 1 ≡ true = rw (byte_kept 7 (omega arith)) seven in
      let two : zeros (compacted s) 10 2 ≡ true = rw (zeros_after.0, zeros_after.1) in
      and_both (and_both (and_both (and_both wide high) count) zero) two

  sound : Sound (kept_in s) 0
  unfolding kept_in depth_before
  sound = sound_from s e (count_of s) 0 first (omega arith)

  pub checked : sheet_check (compacted s) ≡ verdict 0 0
  unfolding compacted
  checked = encoded_check (take 8 s) (kept_in s) eight small few_items header sound

  -- it is read as the sheet without its dead shapes
  laid : items_from (compacted s) (length (kept_in s)) 0 ≡ map item_in (kept_in s)
  unfolding compacted
  laid = laid_items (compacted s) small (kept_in s) 0 _ _ (encoded_laid (take 8 s) (kept_in s) eight small)

  read_again : map item_in (kept_in s) ≡ shed kind (sheet_of s).items first
  unfolding kept_in
  read_again = read_from s (count_of s) 0 first

  items_kept : items_from (compacted s) (count_of (compacted s)) 0 ≡ shed kind (sheet_of s).items first
  items_kept = rw count_kept (laid ∙ read_again)

  pub sheet_kept : sheet_of (compacted s) ≡ shed_of kind (sheet_of s)
  sheet_kept =
      let b = byte_kept in
      rw (
        items_kept,
        b 0 (omega arith),
        b 1 (omega arith),
        b 2 (omega arith),
        b 3 (omega arith),
        b 4 (omega arith),
        b 5 (omega arith),
        b 6 (omega arith),
      )
