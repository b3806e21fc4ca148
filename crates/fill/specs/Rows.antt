-- How the rows of a filled rectangle are cut into rim, middle and rim, and what their columns share. No call of the library cites
-- this file: the functions that draw a row do.
use Rattle.std.specs.Prelude.{Bool, ◌≡◌, ℕ, ◌≤◌, ◌<◌, min, max, Float}
use Rattle.mathf.specs.F32.{◌-ᶠ◌, ◌*ᶠ◌, f½}
use Rattle.mathf.specs.Order.{fabs_of}
use Rattle.mathf.specs.Convert.{to_i32}
use Rattle.geom.specs.declared.Rect.{Rect}
use Rattle.geom.specs.Int.{up}
use Rattle.geom.specs.Plane.{cy_of}
use Rattle.draw.specs.Areas.{within}
use Rattle.paints.specs.Paints.{cov8_of}
use Rattle.fill.specs.declared.Ends.{Ends}
use Rattle.fill.specs.declared.Level.{Level}
use Rattle.fill.specs.Fill.{le_of, rs_of, middle}

-- where the rims end, as columns: of a corner row, and of any other
unfoldable pub ends_of : Bool → Rect → Float → Ends
ends_of corner rect r = record { le = up (to_i32 (le_of corner rect r)); rs = up (to_i32 (rs_of corner rect r)) }

-- how far p is past the straight part of a side, from c to a corner of radius r and then h
abbrev pub past_of : Float → Float → Float → Float → Float
past_of p c h r = fabs_of (p -ᶠ c) -ᶠ (h -ᶠ r)

-- what the columns of the row with the centre yc share
pub record LevelOf (rect : Rect) (r yc : Float) (l : Level) : Type 0 where
  pub past : l.qy ≡ past_of yc (cy_of rect) (rect.h *ᶠ f½) r
  pub covered : l.level ≡ cov8_of (l.qy -ᶠ r)

-- ends brought to x0 up to x1, the right one never under the left
abbrev pub clamped_of : Ends → ℕ → ℕ → Ends
clamped_of e x0 x1 = let le = max x0 (min e.le x1) in record { le = le; rs = max le (min e.rs x1) }

-- of the columns x0 up to x1 of row y, those from `le` up to `rs` are its middle
pub record Cuts (rect : Rect) (r : Float) (y x0 x1 : ℕ) (c : Ends) : Type 0 where
  pub left : x0 ≤ c.le
  pub order : c.le ≤ c.rs
  pub right : c.rs ≤ x1
  pub is_middle : (x : ℕ) → x0 ≤ x → x < x1 → middle rect r x y ≡ within c.le c.rs x
