-- Texts, computed: two refusals, the greatest number, and two rows of two pixels. Assumes nothing.
use Rattle.std.specs.Prelude.{[], ◌∷◌, ◌++◌, ◌≡◌, refl}
use Rattle.text.specs.Picture.{pixel_text, byte_of, table, picture_of}
use Rattle.text.specs.Text.{decimal_in, decimal_of, refused_word, at_word, newline, refusal_text}

pub texts :
    (refusal_text 8 0 ≡ refused_word ++ (56 ∷ []) ++ at_word ++ (48 ∷ []) ++ newline)
    × (refusal_text 13 1024 ≡ refused_word ++ (49 ∷ 51 ∷ []) ++ at_word ++ (49 ∷ 48 ∷ 50 ∷ 52 ∷ []) ++ newline)
    × (decimal_of 4294967295 ≡ 52 ∷ 50 ∷ 57 ∷ 52 ∷ 57 ∷ 54 ∷ 55 ∷ 50 ∷ 57 ∷ 53 ∷ [])
    × (picture_of 2 (0xB87333 ∷ 1 ∷ 0 ∷ 0xFF ∷ [])
    ≡ pixel_text 0xB87333 ++ (32 ∷ []) ++ pixel_text 1 ++ newline ++ pixel_text 0 ++ (32 ∷ []) ++ pixel_text 0xFF ++ newline)
    × (pixel_text 0xB87333 ≡ 48 ∷ 48 ∷ 66 ∷ 56 ∷ 55 ∷ 51 ∷ 51 ∷ 51 ∷ [])
unfolding decimal_in refusal_text pixel_text byte_of table picture_of
texts = (refl, refl, refl, refl, refl)
