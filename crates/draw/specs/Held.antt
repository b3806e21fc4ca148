-- A row of numbers, one for each column, of which some are filled: what the loops that fill and read such rows say to each other.
-- No call of the library cites this file.
use Rattle.std.specs.Prelude.{List, ◌≡◌, ℕ, ◌<◌, ◌≤◌, get_or}

-- the places x0 up to x1 of a row hold what f gives of their columns
unfoldable pub Holds : (ℕ → ℕ) → ℕ → ℕ → List ℕ → Type 0
Holds f x0 x1 row = (x : ℕ) → x0 ≤ x → x < x1 → get_or row x 0 ≡ f x
