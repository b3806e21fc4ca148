-- The areas of stored cases, by their numbers. Assumes nothing.
use Rattle.std.specs.Prelude.{ℕ, ◌≡◌, cond, leb}
use Rattle.cases.specs.declared.Area.{Area}
use Rattle.cases.specs.declared.Area.TheVariants.{Mathf, Color, Geom, Canvas, Paints, Shapes, Sheets, Patches, Orders, Panel, Other}

-- the number of an area; 10 stands for all that no area has
abbrev pub area_code : Area → ℕ
area_code Mathf = 0
area_code Color = 1
area_code Geom = 2
area_code Canvas = 3
area_code Paints = 4
area_code Shapes = 5
area_code Sheets = 6
area_code Patches = 7
area_code Orders = 8
area_code Panel = 9
area_code Other = 10

-- the area with a number
abbrev pub IsArea : ℕ → Area → Type 0
IsArea n area = area_code area ≡ cond (leb n 9) n 10
