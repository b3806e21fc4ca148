-- What is printed of a sheet: the pixels of its fresh painting, row by row, or the number and the item that painting refuses it
-- with. Assumes nothing.
use Rattle.std.specs.Prelude.{ℕ, zero, suc, ◌+◌, ◌*◌, ◌/◌, ◌%◌, min, cond, List, [], ◌∷◌, ◌++◌, ◌≡◌, ltb, length, drop}
use Rattle.sheet.specs.Check.{width_of, height_of}
use Rattle.redraw.specs.Sheet.{Outcome, refuses, draws, painting, fresh}
use Rattle.items.specs.Format.{kind, format}
use Rattle.text.specs.Picture.{picture_of}

-- a number in decimal, no zero in front; up to `before` digits stand before the last
unfoldable pub decimal_in : ℕ → ℕ → List ℕ
decimal_in zero n = (48 + n) ∷ []
decimal_in (suc before) n = cond (ltb n 10) ((48 + n) ∷ []) (decimal_in before (n / 10) ++ ((48 + n % 10) ∷ []))

-- a u32 has at most ten digits
abbrev pub decimal_of : ℕ → List ℕ
decimal_of n = decimal_in 9 n

-- "refused ", " at " and a newline in ASCII
abbrev pub refused_word : List ℕ
refused_word = 114 ∷ 101 ∷ 102 ∷ 117 ∷ 115 ∷ 101 ∷ 100 ∷ 32 ∷ []

abbrev pub at_word : List ℕ
at_word = 32 ∷ 97 ∷ 116 ∷ 32 ∷ []

abbrev pub newline : List ℕ
newline = 10 ∷ []

-- refused N at K
unfoldable pub refusal_text : ℕ → ℕ → List ℕ
refusal_text number item = refused_word ++ decimal_of number ++ at_word ++ decimal_of item ++ newline

-- what is printed of an outcome
unfoldable pub outcome_text : Outcome (List ℕ) → List ℕ
outcome_text (refuses number item) = refusal_text number item
outcome_text (draws s box) = picture_of s.w (fresh kind s)

-- how many of n pixels at hand a sheet is lent: as many as its canvas has, or all for a larger one, which is then refused by 8
abbrev pub lent_of : List ℕ → ℕ → ℕ
lent_of sheet n = min (width_of sheet * height_of sheet) n

-- the text of a sheet, with so many pixels and scratch words at hand; a row has as many words as the canvas has columns
unfoldable pub text_of : List ℕ → ℕ → ℕ → List ℕ
text_of sheet pixels words = outcome_text (painting format sheet (width_of sheet) (lent_of sheet pixels) words)

-- a text was put at the start of a buffer, and its length returned; bytes past it stay as they came
pub record Put (text out : List ℕ) (r : ℕ) (out' : List ℕ) : Type 0 where
  pub long : r ≡ length text
  pub puts : out' ≡ text ++ drop (length text) out
