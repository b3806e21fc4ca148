-- The bytes of a sheet (document 01, "The sheet") from its header and its items, and what a call that writes a sheet promises.
-- Assumes nothing.
use Rattle.std.specs.Prelude.{ℕ, ◌+◌, ◌*◌, ◌/◌, ◌%◌, cond, List, [], ◌∷◌, ◌++◌, ◌≡◌, leb, eqb, length, drop}
use Rattle.geom.specs.Refusals.{unless}
use Rattle.encode.specs.declared.Written.{Written}

-- ---- the sheet

-- the low 16 bits of a number as two bytes, the lower first
abbrev pub u16 : ℕ → List ℕ
u16 n = n % 256 ∷ n / 256 % 256 ∷ []

-- the pairs of offset and length of items of which the first starts at `at`, each next where the last ends
unfoldable pub pairs : ℕ → List (List ℕ) → List ℕ
pairs at [] = []
pairs at (b ∷ bs) = u16 at ++ u16 (length b) ++ pairs (at + length b) bs

-- the items one after the other
unfoldable pub joined : List (List ℕ) → List ℕ
joined [] = []
joined (b ∷ bs) = b ++ joined bs

-- the sheet: bytes 0 to 7 of its header, the count of its items, two zeros, the pairs, the items
unfoldable pub encoded : List ℕ → List (List ℕ) → List ℕ
encoded head its = head ++ (u16 (length its) ++ (0 ∷ 0 ∷ pairs (12 + 4 * length its) its ++ joined its))

-- ---- the calls

-- 19: the sheet does not fit a buffer of `room` bytes
abbrev pub fit_number : List ℕ → ℕ → ℕ
fit_number sheet room = unless (leb (length sheet) room) 19 0

-- what a call promises that is refused by the number n, beside an item, or else (0) writes a sheet: it returns the sheet's
-- length, 0 where it is refused; bytes past the sheet stay as they came, and so do all where it is refused
pub record Wrote (n item : ℕ) (sheet buf : List ℕ) (r : Written) (buf' : List ℕ) : Type 0 where
  pub answers : r ≡ record { number = n; item = item; len = cond (eqb n 0) (length sheet) 0 }
  pub writes : buf' ≡ cond (eqb n 0) (sheet ++ drop (length sheet) buf) buf
