-- What the walk over a sheet's items tells. No call of the library cites this file: the loop of the walk does. Assumes nothing.
use Rattle.std.specs.Prelude.{ℕ, ◌*◌, ◌-◌, ◌≤◌, List, ◌≡◌}
use Rattle.draw.specs.declared.Area.{Area}
use Rattle.sheet.specs.Check.{width_of, height_of, verdict, sheet_check}
use Rattle.items.specs.Format.{needs, kind, sheet_of}
use Rattle.redraw.specs.Drawing.{only, steps}
use Rattle.redraw.specs.Sheet.{canvas}
use Rattle.redraw.specs.Measure.{deepest, met_all}

-- the sheet was accepted
abbrev pub Read : List ℕ → Type 0
Read s = sheet_check s ≡ verdict 0 0

-- an area within 2,048 columns and rows, and its pixels
pub record Small (a : Area) : Type 0 where
  pub across : a.x0 ≤ a.x1
  pub wide : a.x1 ≤ 2048
  pub down : a.y0 ≤ a.y1
  pub high : a.y1 ≤ 2048

abbrev pub cells_of : Area → ℕ
cells_of a = (a.x1 - a.x0) * (a.y1 - a.y0)

abbrev pub deepest_of : List ℕ → ℕ
deepest_of s = deepest (sheet_of s).items (only (canvas (sheet_of s)))

abbrev pub pixels_of : List ℕ → ℕ
pixels_of s = met_all kind (width_of s) (height_of s) (steps (sheet_of s).items (only (canvas (sheet_of s))))

-- what all items of a sheet take
pub record Walked (s : List ℕ) (words most pixels : ℕ) : Type 0 where
  pub need : words ≡ needs (sheet_of s).items
  pub deep : most ≡ deepest_of s
  pub cells : pixels ≡ pixels_of s
