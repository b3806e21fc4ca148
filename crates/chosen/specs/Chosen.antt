-- A sheet of chosen items: those of another sheet by their numbers, counted from 0, in the order chosen. Assumes nothing.
use Rattle.std.specs.Prelude.{ℕ, ◌≤◌, List, map, length, take}
use Rattle.sheet.specs.Check.{bytes_at}
use Rattle.encode.specs.Encode.{encoded}

-- the bytes of the items of some numbers
abbrev pub chosen : List ℕ → List ℕ → List (List ℕ)
chosen s numbers = map (bytes_at s) numbers

-- the sheet that they make: bytes 0 to 7 of the header stay, the count and the pairs are worked out anew
abbrev pub chosen_sheet : List ℕ → List ℕ → List ℕ
chosen_sheet s numbers = encoded (take 8 s) (chosen s numbers)

-- a sheet of 12 to 60,000 bytes, and at most 1,024 numbers
pub record Small (s numbers : List ℕ) : Type 0 where
  pub header : 12 ≤ length s
  pub size : length s ≤ 60000
  pub few : length numbers ≤ 1024
