-- That the accumulator has room for the box: what `accum_line` and its loops ask. No call of the library cites this file;
-- `fill_poly` lends such an accumulator. Assumes nothing.
use Rattle.std.specs.Prelude.{ℕ, ◌+◌, ◌*◌, ◌≤◌, Float}
use Rattle.mathf.specs.Whole.{floor_of, ceil_of}
use Rattle.mathf.specs.Convert.{to_usize}

-- the rows of a box of bw by bh lie within n words. No box is wider or higher, since no coordinate is past 8,192
pub record Room (bw bh n : ℕ) : Type 0 where
  pub wide : bw ≤ 16386
  pub high : bh ≤ 16386
  pub words : (bw + 2) * bh ≤ n

-- the columns that a row of an edge from xa to xb starts and ends in
abbrev pub first_column : Float → ℕ
first_column xa = to_usize (floor_of xa)

abbrev pub last_column : Float → ℕ
last_column xb = to_usize (ceil_of xb)
