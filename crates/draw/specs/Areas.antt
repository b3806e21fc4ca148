-- Boxes of pixels within the canvas, as loops go through them: columns x0 up to x1 and rows y0 up to y1, all natural numbers. No
-- call of the library cites this file: the loops' own contracts do, and `drawn_clip` (proofs/Clips) says that what they draw is
-- the `drawn` that the calls cite.
use Rattle.std.specs.Prelude.{Bool, cond, ◌&&◌, List, length, ◌≡◌, ℕ, ◌+◌, ◌-◌, ◌*◌, ◌/◌, ◌%◌, ◌^◌, ◌≤◌, ◌<◌, leb, ltb}
use Rattle.std.specs.Borrow.{MutBor}
use Rattle.geom.specs.declared.IRect.{IRect}
use Rattle.geom.specs.Int.{up}
use Rattle.geom.specs.Box.{meet, empty}
use Rattle.color.specs.declared.Inked.{Inked}
use Rattle.color.specs.Inks.{inked_of}
use Rattle.draw.specs.declared.Area.{Area}
use Rattle.draw.specs.declared.Span.{Span}
use Rattle.draw.specs.Draw.{onto, differ}

-- lo ≤ x < hi
unfoldable pub within : ℕ → ℕ → ℕ → Bool
within lo hi x = leb lo x && ltb x hi

abbrev pub area : ℕ → ℕ → ℕ → ℕ → Area
area x0 y0 x1 y1 = record { x0 = x0; y0 = y0; x1 = x1; y1 = y1 }

-- whether an area holds the pixel in column x and row y
abbrev pub in_area : Area → ℕ → ℕ → Bool
in_area b x y = within b.x0 b.x1 x && within b.y0 b.y1 y

-- `ink`, a function of column, row and old value, put to the pixels of an area, in rows of `pitch` words
unfoldable pub drawn_in : ℕ → Area → (ℕ → ℕ → ℕ → ℕ) → List ℕ → List ℕ
drawn_in pitch b ink px = onto (λ i. in_area b (i % pitch) (i / pitch)) (λ i p. ink (i % pitch) (i / pitch) p) px

-- the area of a box, its negative sides raised to 0
abbrev pub area_of : IRect → Area
area_of b = area (up b.x0) (up b.y0) (up b.x1) (up b.y1)

-- what a clip lets through of a shape's reach: four zeros where that is empty
unfoldable pub clip_to : IRect → IRect → Area
clip_to reach clip = cond (empty (meet reach clip)) (area 0 0 0 0) (area_of (meet reach clip))

-- a part of row y lies within n words, in rows of `pitch`
pub record RowFits (pitch y x0 x1 n : ℕ) : Type 0 where
  pub order : x0 ≤ x1
  pub right : x1 ≤ pitch
  pub room : y * pitch + pitch ≤ n
  pub wide : x1 ≤ 2048
  pub high : y ≤ 2048

-- an area lies within n words, in rows of `pitch`
pub record AreaFits (pitch : ℕ) (b : Area) (n : ℕ) : Type 0 where
  pub across : b.x0 ≤ b.x1
  pub down : b.y0 ≤ b.y1
  pub right : b.x1 ≤ pitch
  pub bottom : b.y1 * pitch ≤ n
  pub wide : b.x1 ≤ 2048
  pub high : b.y1 ≤ 2048

-- what a function that draws promises: px as it is to be left, and the count n of its words that were altered, at most `most`
pub record Drew (most : ℕ) (px drawn : List ℕ) (n : ℕ) (px' : List ℕ) : Type 0 where
  pub paints : px' ≡ drawn
  pub counts : n ≡ differ px px'
  pub few : n ≤ most

-- the columns x0 up to x1 of row y are drawn
abbrev pub DrewRow : ℕ → ℕ → ℕ → ℕ → (ℕ → ℕ → ℕ → ℕ) → List ℕ → ℕ → List ℕ → Type 0
DrewRow pitch y x0 x1 ink px n px' = Drew (x1 - x0) px (drawn_in pitch (area x0 y x1 (y + 1)) ink px) n px'

-- an area is drawn
abbrev pub DrewIn : ℕ → Area → (ℕ → ℕ → ℕ → ℕ) → List ℕ → ℕ → List ℕ → Type 0
DrewIn pitch b ink px n px' = Drew 4194304 px (drawn_in pitch b ink px) n px'

-- the same of a span
abbrev pub SpanFits : Span → ℕ → Type 0
SpanFits s n = RowFits s.pitch s.y s.x0 s.x1 n

abbrev pub DrewSpan : Span → (ℕ → ℕ → ℕ → ℕ) → List ℕ → ℕ → List ℕ → Type 0
DrewSpan s ink px n px' = DrewRow s.pitch s.y s.x0 s.x1 ink px n px'

-- a closure may be called at each pixel of a span, by its column and its old value, and gives what `ink` does
abbrev pub TakesPixels : (ℕ → ℕ → Type 0) → Span → Type 0
TakesPixels pre s = (x p : ℕ) → s.x0 ≤ x → x < s.x1 → p < 2 ^ 32 → pre x p

abbrev pub Inks : (ℕ → ℕ → Inked → Type 0) → Span → (ℕ → ℕ → ℕ → ℕ) → Type 0
Inks post s ink = (x p : ℕ) (q : Inked) → s.x0 ≤ x → x < s.x1 → p < 2 ^ 32 → post x p q → q ≡ inked_of p (ink x s.y p)

-- the same of two closures, of which one gives the coverage of a column, and the other, called where that is not 0, is told of it
abbrev pub TakesColumns : (ℕ → Type 0) → Span → Type 0
TakesColumns pre s = (x : ℕ) → s.x0 ≤ x → x < s.x1 → pre x

abbrev pub TakesCovered : (ℕ → ℕ → Type 0) → (ℕ → ℕ → ℕ → Type 0) → Span → Type 0
TakesCovered covers pre s = (x p cv : ℕ) → s.x0 ≤ x → x < s.x1 → p < 2 ^ 32 → covers x cv → pre x p cv

-- `ink` leaves the pixels of a column of coverage 0
pub record InksCovered (covers : ℕ → ℕ → Type 0) (post : ℕ → ℕ → ℕ → Inked → Type 0) (s : Span) (ink : ℕ → ℕ → ℕ → ℕ) : Type 0 where
  pub keeps : (x p : ℕ) → s.x0 ≤ x → x < s.x1 → covers x 0 → p ≡ ink x s.y p
  pub inks : (x p cv : ℕ) (q : Inked) → s.x0 ≤ x → x < s.x1 → p < 2 ^ 32 → covers x cv → post x p cv q → q ≡ inked_of p (ink x s.y p)

-- the span of row y of an area
abbrev pub row_of : ℕ → Area → ℕ → Span
row_of pitch b y = record { pitch = pitch; y = y; x0 = b.x0; x1 = b.x1 }

-- a closure may be called at each row of an area, and draws it by `ink`
abbrev pub TakesRows : (MutBor (List ℕ) → Span → Type 0) → ℕ → Area → Type 0
TakesRows pre pitch b = (px : MutBor (List ℕ)) (y : ℕ) → b.y0 ≤ y → y < b.y1 → SpanFits (row_of pitch b y) (length px.now) → pre px (row_of pitch b y)

abbrev pub DrawsRows : (MutBor (List ℕ) → Span → ℕ → MutBor (List ℕ) → Type 0) → ℕ → Area → (ℕ → ℕ → ℕ → ℕ) → Type 0
DrawsRows post pitch b ink =
    (px : MutBor (List ℕ)) (y n : ℕ) (px' : MutBor (List ℕ)) → b.y0 ≤ y → y < b.y1 → SpanFits (row_of pitch b y) (length px.now) → post px (row_of pitch b y) n px'
    → DrewSpan (row_of pitch b y) ink px.now n px'.now
