-- What is drawn of a row: the ink of each part. No call of the library cites this file.
use Rattle.std.specs.Prelude.{Bool, ℕ, ◌+◌, Float}
use Rattle.mathf.specs.F32.{◌-ᶠ◌}
use Rattle.mathf.specs.Order.{fabs_of}
use Rattle.color.specs.declared.Color.{Color}
use Rattle.color.specs.Inks.{over}
use Rattle.paints.specs.Paints.{centre_of}
use Rattle.shadow.specs.declared.Shade.{Shade}
use Rattle.shadow.specs.Shadow.{alpha_of, straight_side, corner_side, straight_alpha, corner_alpha}

-- one alpha for a whole part; and beside the middle, in a straight row and in any other
unfoldable pub flat_ink : Color → ℕ → ℕ → ℕ → ℕ → ℕ
flat_ink c v x y p = over p c v

unfoldable pub straight_ink : Shade → Float → ℕ → ℕ → ℕ → ℕ
straight_ink h sdy x y p = over p h.c (straight_side h.s h.c.a h.blur sdy (centre_of x))

unfoldable pub corner_ink : Shade → Float → ℕ → ℕ → ℕ → ℕ
corner_ink h qy x y p = over p h.c (corner_side h.s h.c.a h.blur qy (centre_of x))

-- the alpha of a column by its own distance, and, in a row that is not straight, that of the column k past x0
unfoldable pub column_alpha : Shade → ℕ → ℕ
column_alpha h x = alpha_of h.c.a h.blur (fabs_of (centre_of x -ᶠ h.s.cx) -ᶠ h.s.hw)

unfoldable pub side_alpha : Shade → Float → ℕ → ℕ → ℕ
side_alpha h qy x0 k = corner_side h.s h.c.a h.blur qy (centre_of (x0 + k))

-- a straight row, and any other
unfoldable pub straight_row_ink : Shade → Bool → Float → ℕ → ℕ → ℕ → ℕ
straight_row_ink h skip sdy x y p = over p h.c (straight_alpha h.s h.c.a h.blur skip sdy x)

unfoldable pub corner_row_ink : Shade → Float → ℕ → ℕ → ℕ → ℕ
corner_row_ink h qy x y p = over p h.c (corner_alpha h.s h.c.a h.blur qy x)
