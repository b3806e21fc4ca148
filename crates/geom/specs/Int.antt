-- Whole numbers with a sign. Assumes nothing.
use Rattle.std.specs.Prelude.{Bool, false, cond, ℕ, suc, eqb, ℤ, pos, negsuc}
use Rattle.std.specs.Int.Signed.{le_z}

-- z is `up z` less `down z`: `up z` is z where it is not negative, else 0
abbrev pub up : ℤ → ℕ
up (pos n) = n
up (negsuc n) = 0

abbrev pub down : ℤ → ℕ
down (pos n) = 0
down (negsuc n) = suc n

-- the larger and the smaller of two
unfoldable pub max_z : ℤ → ℤ → ℤ
max_z a b = cond (le_z a b) b a

unfoldable pub min_z : ℤ → ℤ → ℤ
min_z a b = cond (le_z a b) a b

-- whether two are the same
abbrev pub eq_z : ℤ → ℤ → Bool
eq_z (pos a) (pos b) = eqb a b
eq_z (pos a) (negsuc b) = false
eq_z (negsuc a) (pos b) = false
eq_z (negsuc a) (negsuc b) = eqb a b
