-- `skip_inside` of a shadow as it crosses to C: a number, since a bool would leave other bytes than 0 and 1 outside every
-- promise. Over 1 is refused by 5, which stands where it does for an item (document 01, "Number and item returned"): before 6.
-- Assumes nothing.
use Rattle.std.specs.Prelude.{Bool, ℕ, leb, eqb}
use Rattle.gfx.specs.declared.Canvas.{Canvas}
use Rattle.gfx.specs.Calls.{unless, and_then, px_number}

abbrev pub skip_ok : ℕ → Bool
skip_ok skip = leb skip 1

abbrev pub skip_of : ℕ → Bool
skip_of skip = eqb skip 1

-- a shadow on n lent words, by whether the floats given are finite and within 8,192 of 0: 12, 15, 8, 5, then 6
unfoldable pub skip_number : Canvas → ℕ → ℕ → Bool → ℕ
skip_number c n skip floats_ok = and_then (px_number c n) (unless (skip_ok skip) 5 (unless floats_ok 6 0))
