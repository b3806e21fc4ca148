-- Words of 32 bits in bytes, the lowest byte first. Assumes nothing.
use Rattle.std.specs.Prelude.{ℕ, ◌+◌, ◌*◌, cond, List, length, nat_le, slice_index}

-- the word of four bytes
abbrev pub joined_of : ℕ → ℕ → ℕ → ℕ → ℕ
joined_of a b c d = a + 256 * b + 65536 * c + 16777216 * d

-- the word at a place, counted in bytes
abbrev pub joined_at : List ℕ → ℕ → ℕ
joined_at bs at = joined_of (slice_index bs at) (slice_index bs (at + 1)) (slice_index bs (at + 2)) (slice_index bs (at + 3))

-- the word at place i, counted in words; one that is not all there is 0
unfoldable pub word_at : List ℕ → ℕ → ℕ
word_at bs i = cond (nat_le (4 * i + 4) (length bs)) (joined_at bs (4 * i)) 0
