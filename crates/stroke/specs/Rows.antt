-- What the rows of an outline share, and the columns of a row. No call of the library cites this file: the loops of a row do.
use Rattle.std.specs.Prelude.{◌≡◌, Bool, true, cond, ℕ, ◌+◌, ◌<◌, ◌≤◌, T, Float}
use Rattle.std.specs.Float.{binary32}
use Rattle.std.specs.Float.Ieee.{fits}
use Rattle.mathf.specs.F32.{◌+ᶠ◌, ◌-ᶠ◌, ◌≤ᶠ◌, f0, f1}
use Rattle.mathf.specs.Root.{sqrt_of}
use Rattle.mathf.specs.Order.{fabs_of}
use Rattle.mathf.specs.Whole.{floor_of, ceil_of}
use Rattle.mathf.specs.Convert.{to_i32}
use Rattle.geom.specs.Int.{up}
use Rattle.paints.specs.Paints.{centre_of, rounded_sd}
use Rattle.paints.specs.declared.Rounded.{Rounded}
use Rattle.stroke.specs.declared.Columns.{Columns}
use Rattle.stroke.specs.Stroke.{band_cover, gap_from, gap_upto}

-- squared distances of the centre of a corner with the radius r: from k on, or up to k, the band covers nothing
abbrev pub BlankFrom : Float → Float → Float → Type 0
BlankFrom r width k = (d : Float) → T (fits binary32 d) → (k ≤ᶠ d) ≡ true → band_cover (sqrt_of d -ᶠ r) width ≡ 0

abbrev pub BlankUpto : Float → Float → Float → Type 0
BlankUpto r width k = (d : Float) → T (fits binary32 d) → (f0 ≤ᶠ d) ≡ true → (d ≤ᶠ k) ≡ true → band_cover (sqrt_of d -ᶠ r) width ≡ 0

-- the gap of a row that passes a rounded corner, or of any other, and that of the row with the centre yc
abbrev pub width_of : Bool → Rounded → Float → Float
width_of corner s width = cond corner (s.r +ᶠ f1) (width +ᶠ f1)

pub record GapOf (s : Rounded) (width : Float) (corner : Bool) (g : Columns) : Type 0 where
  pub from : g.from ≡ up (to_i32 (ceil_of (s.left +ᶠ width_of corner s width)))
  pub upto : g.upto ≡ up (to_i32 (floor_of (s.right -ᶠ width_of corner s width)))

pub record RowGap (s : Rounded) (width yc : Float) (g : Columns) : Type 0 where
  pub from : g.from ≡ up (gap_from s width yc)
  pub upto : g.upto ≡ up (gap_upto s width yc)

-- no column from a up to b is past the straight parts of the top and the bottom
unfoldable pub LevelIn : Rounded → ℕ → ℕ → Type 0
LevelIn s a b = (x : ℕ) → a ≤ x → x < b → (fabs_of (centre_of x -ᶠ s.cx) -ᶠ (s.hw -ᶠ s.r) ≤ᶠ f0) ≡ true

-- such columns of a row from x0 up to x1
pub record LevelPart (s : Rounded) (x0 x1 : ℕ) (g : Columns) : Type 0 where
  pub after : x0 ≤ g.from
  pub order : g.from ≤ g.upto
  pub before : g.upto ≤ x1
  pub level : LevelIn s g.from g.upto

-- the coverage of a column by its own distance
unfoldable pub column_cover : Rounded → Float → ℕ → ℕ
column_cover s width x = band_cover (fabs_of (centre_of x -ᶠ s.cx) -ᶠ (s.hw -ᶠ s.r) -ᶠ s.r) width

-- that of the column k past x0, in the row with the centre yc
unfoldable pub band_at : Rounded → Float → Float → ℕ → ℕ → ℕ
band_at s width yc x0 k = band_cover (rounded_sd s (centre_of (x0 + k)) yc) width
