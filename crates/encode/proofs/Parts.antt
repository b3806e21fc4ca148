-- A sheet put into a buffer part by part: its header, its pairs, its items; and what its call then promises. Assumes nothing.
use Prim.Native.Nat.{ℕ, ◌+◌, ◌*◌, ◌≤◌, ◌<◌}
use mathlib.Core.List.{List, ◌∷◌, ◌++◌, append_assoc}
use mathlib.Core.Path.{◌≡◌, refl, ap, ◌∙◌}
use native.Mathlib.Omega.{arith}
use borrow.Author.Tests.{le-leb, lt-leb}
use lib.ListN.{length, length-append}
use Rattle.encode.specs.Encode.{u16, pairs, joined, encoded, fit_number, Wrote}
use Rattle.encode.specs.Placed.{placed}
use Rattle.encode.specs.declared.Written.{Written}
use Rattle.encode.proofs.Placing.{placed_more, placed_first}
use Rattle.encode.proofs.Laid.{length_pairs, length_joined, encoded_length}

-- ---- one item more

pub pairs_turn : (place at : ℕ) (b : List ℕ) (bs : List (List ℕ)) (buf : List ℕ) → place + 4 + 4 * length bs ≤ length buf
    → placed (place + 4) (pairs (at + length b) bs) (placed place (u16 at ++ u16 (length b)) buf) ≡ placed place (pairs at (b ∷ bs)) buf
unfolding pairs
pairs_turn place at b bs buf room =
    placed_more place (u16 at ++ u16 (length b)) (pairs (at + length b) bs) buf (omega (arith, length_pairs (at + length b) bs))

pub joined_turn : (at : ℕ) (b : List ℕ) (bs : List (List ℕ)) (buf : List ℕ) → at + length b + length (joined bs) ≤ length buf
    → placed (at + length b) (joined bs) (placed at b buf) ≡ placed at (joined (b ∷ bs)) buf
unfolding joined
joined_turn at b bs buf room = placed_more at b (joined bs) buf room

-- ---- the parts

module _ (head : List ℕ) (its : List (List ℕ)) (eight : length head ≡ 8) (buf : List ℕ) (room : length (encoded head its) ≤ length buf) where
  abbrev count : List ℕ
  count = u16 (length its) ++ u16 0

  abbrev run : List ℕ
  run = pairs (12 + 4 * length its) its

  twelve : length (head ++ count) ≡ 12
  twelve = rw (length-append head count, eight)

  run_length : length run ≡ 4 * length its
  run_length = length_pairs (12 + 4 * length its) its

  pub items_room : 12 + 4 * length its + length (joined its) ≤ length buf
  items_room = omega (arith, encoded_length head its eight, length_joined its)

  one_list : head ++ count ++ run ++ joined its ≡ encoded head its
  unfolding encoded
  one_list = rw (append_assoc head count run, append_assoc head (count ++ run) (joined its))

  front : placed 8 count (placed 0 head buf) ≡ placed 0 (head ++ count) buf
  front =
      let e : 0 + length head ≡ 8 = omega (arith, eight) in
      rw e at (placed_more 0 head count buf (omega (arith, eight, items_room)))

  with_pairs : placed 12 run (placed 0 (head ++ count) buf) ≡ placed 0 (head ++ count ++ run) buf
  with_pairs =
      let e : 0 + length (head ++ count) ≡ 12 = omega (arith, twelve) in
      rw e at (placed_more 0 (head ++ count) run buf (omega (arith, twelve, run_length, items_room)))

  with_items : placed (12 + 4 * length its) (joined its) (placed 0 (head ++ count ++ run) buf) ≡ placed 0 (head ++ count ++ run ++ joined its) buf
  with_items =
      let e : 0 + length (head ++ count ++ run) ≡ 12 + 4 * length its = rw (length-append (head ++ count) run) (omega (arith, twelve, run_length)) in
      rw e at (placed_more 0 (head ++ count ++ run) (joined its) buf (omega (arith, e, items_room)))

  -- bytes 0 to 7, the count and two zeros, the pairs, the items
  pub parts : placed (12 + 4 * length its) (joined its) (placed 12 run (placed 8 count (placed 0 head buf))) ≡ placed 0 (encoded head its) buf
  parts = rw (front, with_pairs) (with_items ∙ ap (λ (x : List ℕ). placed 0 x buf) one_list)

-- ---- what is promised

module _ (item : ℕ) (sheet buf : List ℕ) where
  -- refused by 19
  pub too_long : length buf < length sheet → (r : Written) → r ≡ record { number = 19; item = item; len = 0 }
      → Wrote (fit_number sheet (length buf)) item sheet buf r buf
  too_long h r e = rw (lt-leb (length sheet) (length buf) h) (record { answers = e; writes = refl })

  pub fits : length sheet ≤ length buf → (len : ℕ) (buf' : List ℕ) → len ≡ length sheet → buf' ≡ placed 0 sheet buf
      → Wrote (fit_number sheet (length buf)) item sheet buf (record { number = 0; item = item; len = len }) buf'
  fits h len buf' e f = rw (le-leb (length sheet) (length buf) h, e) (record { answers = refl; writes = f ∙ placed_first sheet buf h })
