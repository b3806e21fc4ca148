-- Every order of up to 6 items makes a sheet that painting accepts. Assumes nothing.
use Prim.Native.Nat.{ℕ, ◌+◌, ◌*◌, ◌≤◌, ◌<◌}
use mathlib.Core.Bool.{true, cond}
use mathlib.Core.List.{List, [], ◌∷◌, map}
use mathlib.Core.Path.{◌≡◌, refl, ap, ◌∙◌}
use native.Mathlib.Omega.{arith}
use borrow.Author.Tests.{eq-eqb, lt-ltb, le-leb}
use lib.Dec.{eqb}
use lib.Ieee.{le, lt, eq, neg, of_bits}
use lib.ListN.{length, length-map}
use Rattle.geom.specs.Plane.{float_ok}
use Rattle.geom.proofs.Bools.{split}
use Rattle.sheet.specs.Bytes.{all_at}
use Rattle.sheet.specs.Kinds.{kind_at, depth_after, layout_at, length_ok, points_ok, paint_bytes_ok, bytes_ok, paint_floats_ok, floats_ok, saved_ok, item_number}
use Rattle.sheet.specs.Check.{count_of, header_ok, verdict, sheet_check}
use Rattle.draw.specs.Frame.{pitch_ok, pitch_number, frame_number}
use Rattle.redraw.specs.Sheet.{lent_number, painting, accepted}
use Rattle.items.specs.Items.{read_item, read_paint}
use Rattle.items.specs.Format.{drawn_as, need_of, item_in, item_need, needs, items_from, format, sheet_of}
use Rattle.paint.specs.Paint.{need_in}
use Rattle.redraw.proofs.Rules.{paint_draws}
use Rattle.items.proofs.Readings.{reads_accepted}
use Rattle.encode.specs.Encode.{encoded}
use Rattle.encode.proofs.Laid.{total, Sound, Laid, laid_bytes, laid_next, encoded_length, encoded_count, encoded_laid, encoded_check}
use Rattle.orders.specs.Orders.{push, pop, fill, item, head, as_sheet}

-- ---- the items

-- what holds of the three items holds of each
pub by_item : (P : List ℕ → Type 0) → P push → P pop → P fill → (kind : ℕ) → P (item kind)
unfolding item
by_item P a b c kind =
    split (eqb kind 1) (λ t. P (cond t push (cond (eqb kind 2) pop fill))) (λ e. a)
    (λ e. split (eqb kind 2) (λ t. P (cond t pop fill)) (λ f. b) (λ f. c))

push_ok : (depth : ℕ) → depth < 16 → item_number push 0 20 depth ≡ 0
unfolding le lt eq neg of_bits float_ok all_at layout_at length_ok points_ok paint_bytes_ok bytes_ok paint_floats_ok floats_ok saved_ok item_number
push_ok depth h = rw (lt-ltb depth 16 h)

pop_ok : (depth : ℕ) → item_number pop 0 4 depth ≡ 0
unfolding le lt eq neg of_bits float_ok all_at layout_at length_ok points_ok paint_bytes_ok bytes_ok paint_floats_ok floats_ok saved_ok item_number
pop_ok depth = refl

fill_ok : (depth : ℕ) → item_number fill 0 52 depth ≡ 0
unfolding le lt eq neg of_bits float_ok all_at layout_at length_ok points_ok paint_bytes_ok bytes_ok paint_floats_ok floats_ok saved_ok item_number
fill_ok depth = refl

item_ok : (depth : ℕ) → depth < 16 → (kind : ℕ) → item_number (item kind) 0 (length (item kind)) depth ≡ 0
item_ok depth h = by_item (λ b. item_number b 0 (length b) depth ≡ 0) (push_ok depth h) (pop_ok depth) (fill_ok depth)

item_depth : (depth kind : ℕ) → depth_after (kind_at (item kind) 0) depth ≤ depth + 1
item_depth depth = by_item (λ b. depth_after (kind_at b 0) depth ≤ depth + 1) (omega arith) (omega arith) (omega arith)

pub item_long : (kind : ℕ) → (4 ≤ length (item kind)) × (length (item kind) ≤ 52)
item_long = by_item (λ b. (4 ≤ length b) × (length b ≤ 52)) (omega arith) (omega arith) (omega arith)

-- no item needs scratch
item_need_lem : (kind : ℕ) → item_need (item_in (item kind)) ≡ 0
unfolding item_need drawn_as need_of read_item read_paint
item_need_lem = by_item (λ b. item_need (item_in b) ≡ 0) refl refl refl

-- ---- the items of an order

sound : (o : List ℕ) (depth : ℕ) → depth + length o ≤ 16 → Sound (map item o) depth
unfolding Sound
sound [] depth h = tt
sound (kind ∷ o) depth h =
    (item_ok depth (omega arith) kind, (item_long kind).0, sound o (depth_after (kind_at (item kind) 0) depth) (omega (arith, item_depth depth kind)))

total_small : (o : List ℕ) → total (map item o) ≤ 52 * length o
unfolding total
total_small [] = omega arith
total_small (kind ∷ o) = omega (arith, (item_long kind).1, total_small o)

needs_none : (s : List ℕ) (small : length s ≤ 60000) (o : List ℕ) (k at : ℕ) (rest : List ℕ) → Laid s small (map item o) k at rest
    → needs (items_from s (length o) k) ≡ 0
unfolding needs items_from
needs_none s small [] k at rest l = refl
needs_none s small (kind ∷ o) k at rest l =
    let b = item kind in
    let bs = map item o in
    rw (laid_bytes s small b bs k at rest l, item_need_lem kind, needs_none s small o (k + 1) (at + length b) rest (laid_next s small b bs k at rest l))

-- ---- its sheet

module _ (o : List ℕ) (h : length o ≤ 6) where
  pub short : length (as_sheet o) ≤ 60000
  short = omega (arith, encoded_length head (map item o) refl, length-map o item, total_small o)

  pub few_items : length (map item o) < 65536
  few_items = omega (arith, length-map o item)

  header : header_ok (as_sheet o) ≡ true
  unfolding header_ok encoded all_at
  header = rw (le-leb (count_of (as_sheet o)) 1024 (omega (arith, encoded_count head (map item o) refl few_items, length-map o item)))

  pub sheet_checked : sheet_check (as_sheet o) ≡ verdict 0 0
  sheet_checked = encoded_check head (map item o) refl short few_items header (sound o 0 (omega arith))

  no_need : need_in (as_sheet o) ≡ 0
  no_need =
      let count = encoded_count head (map item o) refl few_items ∙ length-map o item in
      rw count (needs_none (as_sheet o) short o 0 _ _ (encoded_laid head (map item o) refl short))

  lent_enough : (pitch words : ℕ) → pitch_ok 4 pitch ≡ true → lent_number format (sheet_of (as_sheet o)) pitch (pitch * 4) words ≡ 0
  unfolding lent_number frame_number pitch_number encoded
  lent_enough pitch words p = rw (p, eq-eqb (pitch * 4) (pitch * 4) refl, no_need, le-leb 0 words (omega arith))

  pub sheet_painted : (pitch words : ℕ) → pitch_ok 4 pitch ≡ true → accepted (painting format (as_sheet o) pitch (pitch * 4) words) ≡ true
  unfolding accepted
  sheet_painted pitch words p =
      ap accepted (paint_draws format (as_sheet o) pitch _ words (sheet_of (as_sheet o)) (reads_accepted (as_sheet o) sheet_checked) (lent_enough pitch words p))
