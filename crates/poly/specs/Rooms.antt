-- That a part of the canvas lies in the box, a pixel by the words of its row, and closures that ink covered pixels: what the loops of
-- a row ask and do. No call of the library cites this file. Assumes nothing.
use Rattle.std.specs.Prelude.{true, List, ◌≡◌, ℕ, ◌+◌, ◌-◌, ◌≤◌, ◌<◌, ℤ, pos, Float}
use Rattle.std.specs.Int.Signed.{le_z}
use Rattle.color.specs.Inks.{over_c, inked_of}
use Rattle.color.specs.declared.Color.{Color}
use Rattle.color.specs.declared.Inked.{Inked}
use Rattle.draw.specs.declared.Span.{Span}
use Rattle.paints.specs.Paints.{paint_at, centre_of}
use Rattle.paints.specs.declared.Paint.{Paint}
use Rattle.poly.specs.Poly.{offset_of, run_sum, cover_of}

-- the colours of a paint in row y, by column
abbrev pub colour_in : Paint → ℕ → ℕ → Color
colour_in paint y x = paint_at paint (centre_of x) (centre_of y)

-- a pixel by the colours of its row and by its words, which start at ls: column x0 is the one after `skip`
unfoldable pub ink_from : List Float → ℕ → ℕ → ℕ → (ℕ → Color) → ℕ → ℕ → ℕ → ℕ
ink_from acc ls skip x0 colour x y p = over_c p (colour x) (cover_of (run_sum acc ls (skip + (x - x0) + 1)))

-- a closure may be called at each pixel of a span, by its column, its old value and its coverage, and inks by `colour`
abbrev pub TakesCovered : (ℕ → ℕ → ℕ → Type 0) → Span → Type 0
TakesCovered pre s = (x p cv : ℕ) → s.x0 ≤ x → x < s.x1 → pre x p cv

abbrev pub InksCovered : (ℕ → ℕ → ℕ → Inked → Type 0) → Span → (ℕ → Color) → Type 0
InksCovered post s colour = (x p cv : ℕ) (q : Inked) → s.x0 ≤ x → x < s.x1 → post x p cv q → q ≡ inked_of p (over_c p (colour x) cv)

-- columns or rows from a up to b of the canvas lie in a box's, which start at the origin
pub record Over (origin : ℤ) (span a b : ℕ) : Type 0 where
  pub from : le_z origin (pos a) ≡ true
  pub to : offset_of a origin + (b - a) ≤ span
