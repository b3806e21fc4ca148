-- Texts put into a buffer: a refusal, run by run, and a picture. Assumes nothing.
use Prim.Native.Nat.{ℕ, zero, suc, ◌+◌, ◌*◌, ◌≤◌}
use mathlib.Core.Path.{◌≡◌, refl, sym, ◌∙◌}
use mathlib.Core.List.{List, [], ◌∷◌, ◌++◌}
use native.Mathlib.Numerals.{add-one}
use native.Mathlib.Omega.{arith}
use lib.ListN.{length, drop, length-append}
use lib.Seq.{length-take-le}
use Rattle.io.specs.Counts.{IsPrefixLen}
use Rattle.encode.specs.Placed.{placed}
use Rattle.encode.proofs.Placing.{placed_more, placed_first}
use Rattle.text.specs.Picture.{table, byte_of, picture_of}
use Rattle.text.specs.Text.{decimal_of, refused_word, at_word, newline, refusal_text, Put}
use Rattle.text.proofs.Decimal.{decimal_short}

-- a run that begins where the one before ended
next_run : (x y out : List ℕ) (at : ℕ) → length x ≡ at → at + length y ≤ length out → placed at y (placed 0 x out) ≡ placed 0 (x ++ y) out
next_run x y out at e h =
    let start : 0 + length x ≡ at = omega (arith, e) in
    rw start at (placed_more 0 x y out (omega (arith, e)))

module _ (number item : ℕ) (out : List ℕ) (room : 33 ≤ length out) (at end : ℕ)
    (number-ends : at ≡ 8 + length (decimal_of number)) (item-ends : end ≡ at + 4 + length (decimal_of item)) where
  short_number : length (decimal_of number) ≤ 10
  short_number = decimal_short 9 number

  short_item : length (decimal_of item) ≤ 10
  short_item = decimal_short 9 item

  abbrev one : List ℕ
  one = refused_word ++ decimal_of number

  abbrev two : List ℕ
  two = one ++ at_word

  abbrev three : List ℕ
  three = two ++ decimal_of item

  length_one : length one ≡ at
  length_one = omega (arith, number-ends)

  length_two : length two ≡ at + 4
  length_two = rw (length-append one at_word) (omega (arith, length_one))

  length_three : length three ≡ end
  length_three = rw (length-append two (decimal_of item)) (omega (arith, length_two, item-ends))

  whole : three ++ newline ≡ refusal_text number item
  unfolding refusal_text
  whole = refl

  long : length (refusal_text number item) ≡ end + 1
  long = rw (← whole, length-append three newline) (omega (arith, length_three))

  -- the five runs
  pub refusal_put : {a b c d e : List ℕ} → a ≡ placed 0 refused_word out → b ≡ placed 8 (decimal_of number) a → c ≡ placed at at_word b
      → d ≡ placed (at + 4) (decimal_of item) c → e ≡ placed end newline d → Put (refusal_text number item) out (end + 1) e
  refusal_put {a} {b} {c} {d} {e} p q r s t = record { long = sym long; puts = text_is ∙ placed_first (refusal_text number item) out (omega (arith, long, item-ends, number-ends, short_number, short_item)) }
    where
      first : b ≡ placed 0 one out
      first = q ∙ rw p (next_run refused_word (decimal_of number) out 8 refl (omega (arith, short_number)))

      second : c ≡ placed 0 two out
      second = r ∙ rw first (next_run one at_word out at length_one (omega (arith, number-ends, short_number)))

      third : d ≡ placed 0 three out
      third = s ∙ rw second (next_run two (decimal_of item) out (at + 4) length_two (omega (arith, number-ends, short_number, short_item)))

      text_is : e ≡ placed 0 (refusal_text number item) out
      text_is = t ∙ rw (third, ← whole) (next_run three newline out end length_three (omega (arith, item-ends, number-ends, short_number, short_item)))

-- ---- a picture

length_table : (f : ℕ → ℕ) (n : ℕ) → length (table f n) ≡ n
unfolding table
length_table f zero = refl
length_table f (suc n) = rw (length-append (table f n) (f n ∷ []), length_table f n) (add-one n)

pub length_picture : (w : ℕ) (px : List ℕ) → length (picture_of w px) ≡ 9 * length px
unfolding picture_of
length_picture w px = length_table (byte_of w px) (9 * length px)

-- ---- a text that was put counts the bytes at the start of its buffer

pub put_counts : {text out : List ℕ} {r : ℕ} {out' : List ℕ} → Put text out r out' → IsPrefixLen r out'
put_counts {text} {out} {r} {out'} p =
    let fits : r ≤ length out' = rw (p.puts, length-append text (drop (length text) out)) (omega (arith, p.long)) in
    (fits, sym (length-take-le r out' fits))
