-- The points of a call, given as their coordinates x y x y (document 01, number 13).
use Rattle.std.specs.Prelude.{Bool, true, ◌&&◌, List, [], ◌∷◌, ℕ, ◌%◌, leb, eqb, Float, length}
use Rattle.geom.specs.Plane.{float_ok}
use Rattle.gfx.specs.Calls.{unless, and_then, px_number}
use Rattle.gfx.specs.declared.Canvas.{Canvas}

-- an even count of coordinates, of at most 64 points
unfoldable pub points_ok : List Float → Bool
points_ok pts = eqb (length pts % 2) 0 && leb (length pts) 128

-- every coordinate is finite and within 8,192 of 0
unfoldable pub coords_ok : List Float → Bool
coords_ok [] = true
coords_ok (x ∷ xs) = float_ok x && coords_ok xs

-- a shape call with points on n lent words: 12, 15, 8, 13, then 6, which reads every coordinate and, by `others`, the other
-- floats given
unfoldable pub points_number : Canvas → ℕ → List Float → Bool → ℕ
points_number c n pts others = and_then (px_number c n) (unless (points_ok pts) 13 (unless (coords_ok pts && others) 6 0))
