-- A worked example over the definitions: each side computes. Assumes nothing.
use Rattle.std.specs.Prelude.{◌≡◌, refl, List, [], ◌∷◌, ℕ, pos, negsuc, Float}
use Rattle.std.specs.Float.Ieee.{of_bits, of_int, round, add, sub, mul, div, lt, eq, ne, neg, to_unsigned, to_signed}
use Rattle.mathf.specs.F32.{f0, f½, f1, f1½}
use Rattle.mathf.specs.Whole.{floor_of, ceil_of}
use Rattle.geom.specs.Box.{box_of}
use Rattle.accum.specs.Accum.{bump_run, short_row, mid_row, inner_row, wide_row, row_accum}
use Rattle.accum.specs.Lines.{row_between, row_height, row_next, edge_x, edge_row, edge_rows, start_x, edge_down, edge_of, first_row}
use Rattle.accum.specs.Lines.{end_row, line_accum}
use Rattle.bounds.specs.Bounds.{extent_of, origin_of, span_of, poly_box, painted}
use Rattle.poly.specs.Poly.{poly_reach, poly_need, point_from, edges_accum, accumulated, run_sum, area_at, cover_of}

-- the square from (0.5, 0) to (1.5, 1)
abbrev square : List Float
square = f½ ∷ f0 ∷ f1½ ∷ f0 ∷ f1½ ∷ f1 ∷ f½ ∷ f1 ∷ []

-- one column and one row are added on each side: from (-1, -1), 4 by 3
pub square_reach : poly_reach square ≡ box_of (negsuc 0) (negsuc 0) (pos 3) (pos 2)
unfolding poly_reach painted poly_box span_of origin_of extent_of floor_of ceil_of to_signed lt ne eq neg of_bits round
square_reach = refl

pub square_need : poly_need square ≡ 20
unfolding poly_need painted poly_box span_of origin_of extent_of floor_of ceil_of to_signed lt ne eq neg of_bits round
square_need = refl

-- its coverage of the pixel in column x of row 0
abbrev covered : ℕ → ℕ
covered x = cover_of (area_at (accumulated square (poly_box square)) (poly_box square) x 0)

-- half of the first two pixels, and nothing of the third
pub square_cover : (covered 0 ≡ 128) × (covered 1 ≡ 128) × (covered 2 ≡ 0)
unfolding cover_of area_at run_sum accumulated edges_accum point_from line_accum edge_of edge_down start_x first_row end_row edge_rows edge_row
    edge_x row_next row_height row_between row_accum short_row wide_row inner_row mid_row bump_run poly_box span_of origin_of extent_of floor_of
    ceil_of to_signed to_unsigned add sub mul div lt ne eq neg of_bits of_int round
square_cover = (refl, refl, refl)
