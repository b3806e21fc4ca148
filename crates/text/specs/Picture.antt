-- The text of a picture: 8 upper-case hexadecimal digits for each pixel, then a newline at the end of a row, else a space.
-- Assumes nothing.
use Rattle.std.specs.Prelude.{ℕ, zero, suc, ◌+◌, ◌*◌, ◌/◌, ◌%◌, cond, List, [], ◌∷◌, ◌++◌, ltb, eqb, length, get_or}

-- the digits 0 to 9 and A to F in ASCII
abbrev pub digit_of : ℕ → ℕ
digit_of d = cond (ltb d 10) (48 + d) (55 + d)

-- the digits of a pixel, the highest first
unfoldable pub pixel_text : ℕ → List ℕ
pixel_text p =
    digit_of (p / 268435456 % 16)
    ∷ digit_of (p / 16777216 % 16)
    ∷ digit_of (p / 1048576 % 16)
    ∷ digit_of (p / 65536 % 16)
    ∷ digit_of (p / 4096 % 16)
    ∷ digit_of (p / 256 % 16)
    ∷ digit_of (p / 16 % 16)
    ∷ digit_of (p % 16)
    ∷ []

-- what follows pixel k in rows of w
abbrev pub after_of : ℕ → ℕ → ℕ
after_of w k = cond (eqb ((k + 1) % w) 0) 10 32

-- byte i of the text: 9 bytes belong to each pixel
unfoldable pub byte_of : ℕ → List ℕ → ℕ → ℕ
byte_of w px i = cond (ltb (i % 9) 8) (get_or (pixel_text (get_or px (i / 9) 0)) (i % 9) 0) (after_of w (i / 9))

-- f of 0, of 1 and so on, n numbers in all
unfoldable pub table : (ℕ → ℕ) → ℕ → List ℕ
table f zero = []
table f (suc n) = table f n ++ (f n ∷ [])

-- the text of a canvas with w columns
unfoldable pub picture_of : ℕ → List ℕ → List ℕ
picture_of w px = table (byte_of w px) (9 * length px)
