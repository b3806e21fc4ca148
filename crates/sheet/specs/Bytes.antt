-- Numbers in the bytes of a sheet, the lowest byte first. Past the end a byte counts as 0.
use Rattle.std.specs.Prelude.{ℕ, zero, suc, ◌+◌, ◌*◌, List, [], ◌∷◌, Bool, true, ◌&&◌, cond, get_or, eqb, Float}
use Rattle.std.specs.Float.{binary32}
use Rattle.std.specs.Float.Ieee.{of_bits}
use Rattle.geom.specs.Plane.{float_ok}

abbrev pub byte_at : List ℕ → ℕ → ℕ
byte_at s at = get_or s at 0

-- a number of two bytes, and of four
abbrev pub u16_at : List ℕ → ℕ → ℕ
u16_at s at = byte_at s at + 256 * byte_at s (at + 1)

abbrev pub u32_at : List ℕ → ℕ → ℕ
u32_at s at = u16_at s at + 65536 * u16_at s (at + 2)

-- the float whose bits four bytes are
abbrev pub float_at : List ℕ → ℕ → Float
float_at s at = of_bits binary32 (u32_at s at)

-- `test` holds at the n places at, at + step, at + 2 * step and so on
unfoldable pub all_at : (ℕ → Bool) → ℕ → ℕ → ℕ → Bool
all_at test step at zero = true
all_at test step at (suc n) = test at && all_at test step (at + step) n

-- a byte is zero, and n from a place on are
abbrev pub zero_at : List ℕ → ℕ → Bool
zero_at s at = eqb (byte_at s at) 0

abbrev pub zeros : List ℕ → ℕ → ℕ → Bool
zeros s at n = all_at (zero_at s) 1 at n

-- a float is finite and within 8,192 of 0, and n from a place on are
abbrev pub float_ok_at : List ℕ → ℕ → Bool
float_ok_at s at = float_ok (float_at s at)

abbrev pub floats : List ℕ → ℕ → ℕ → Bool
floats s at n = all_at (float_ok_at s) 4 at n

-- a table of numbers and what stands beside each: what stands beside k, or d where k is not there
abbrev pub lookup : {A : Type 0} → ℕ → List (ℕ × A) → A → A
lookup k [] d = d
lookup k (row ∷ rows) d = cond (eqb k row.0) row.1 (lookup k rows d)
