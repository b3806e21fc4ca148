-- Painting and patching a sheet, as definitions over any kind of shape and any reading of bytes: what a call answers, by the two
-- sheets, the pitch and the lengths of px and scratch alone, and what it leaves in px and scratch.
use Rattle.std.specs.Prelude.{Bool, true, false, cond, ◌&&◌, List, [], ◌∷◌, ◌++◌, ◌≡◌, ℕ, ◌*◌, ◌≤◌, pos, leb, eqb, length, drop, replicate}
use Rattle.redraw.specs.declared.Answer.{Answer}
use Rattle.geom.specs.declared.IRect.{IRect}
use Rattle.geom.specs.Box.{no_box, meet, hull}
use Rattle.geom.specs.Refusals.{unless, and_then}
use Rattle.draw.specs.Frame.{frame_number}
use Rattle.draw.specs.Parts.{drawn_all}
use Rattle.redraw.specs.Drawing.{Item, push, pop, shape, Clips, only, after, Step, Kind, shape_on, items_on, ground_in}

-- a sheet that was read
pub record Sheet (Shape : Type 0) : Type 0 where
  pub w : ℕ
  pub h : ℕ
  pub ground_pixel : ℕ
  pub items : List (Item Shape)

-- the reading of some bytes: refused, with number and item, or a sheet
pub data Reading (Shape : Type 0) : Type 0 where
  refused : ℕ → ℕ → Reading Shape
  read : Sheet Shape → Reading Shape

-- What the calls take of a sheet's format: the shapes, the reading of bytes, the scratch words that items need, and the test by
-- which two items are the same.
pub record Format : Type 1 where
  pub kind : Kind
  pub reading : List ℕ → Reading kind.Shape
  pub need : List (Item kind.Shape) → ℕ
  pub same : Item kind.Shape → Item kind.Shape → Bool

-- What a format has to prove: items that it calls the same are equal, a sheet has a row, no reading is refused by 0, and a
-- shape's parts, drawn one after the other, are the shape.
pub record Lawful (F : Format) : Type 0 where
  pub sound : (i j : Item F.kind.Shape) → F.same i j ≡ true → i ≡ j
  pub tall : (sheet : List ℕ) (s : Sheet F.kind.Shape) → F.reading sheet ≡ read s → 1 ≤ s.h
  pub numbered : (sheet : List ℕ) (n k : ℕ) → F.reading sheet ≡ refused n k → 1 ≤ n
  pub whole : (a : F.kind.Shape) (pitch : ℕ) (c : IRect) (px : List ℕ)
      → drawn_all pitch c (F.kind.parts a) px ≡ shape_on F.kind pitch c a px

-- ---- how two lists of items differ

-- two shapes that differ, the old one first, each with the clip in force at it
abbrev pub Pair : Type 0 → Type 0
Pair Shape = Step Shape × Step Shape

-- in a push, a pop or their count; or only in shapes: the pairs that differ
pub data Change (Shape : Type 0) : Type 0 where
  other : Change Shape
  shapes : List (Pair Shape) → Change Shape

unfoldable pub with_pair : {Shape : Type 0} → Step Shape → Step Shape → Change Shape → Change Shape
with_pair a b other = other
with_pair a b (shapes l) = shapes ((a, b) ∷ l)

-- two items that differ, the old one where the clip u is in force, the new one where v is
unfoldable pub both_shapes : {Shape : Type 0} → IRect → IRect → Item Shape → Item Shape → Change Shape → Change Shape
both_shapes u v (push s b) j c = other
both_shapes u v (pop s) j c = other
both_shapes u v (shape a) (push s b) c = other
both_shapes u v (shape a) (pop s) c = other
both_shapes u v (shape a) (shape b) c = with_pair (record { under = u; drawn = a }) (record { under = v; drawn = b }) c

module _ {Shape : Type 0} (same : Item Shape → Item Shape → Bool) where
  -- from the clips c of the old items and the clips d of the new ones, each altered by its own items
  unfoldable pub change : List (Item Shape) → List (Item Shape) → Clips → Clips → Change Shape
  change [] [] c d = shapes []
  change [] (j ∷ s) c d = other
  change (i ∷ r) [] c d = other
  change (i ∷ r) (j ∷ s) c d =
      let rest = change r s (after i c) (after j d) in
      cond (same i j) rest (both_shapes c.clip d.clip i j rest)

-- "the reach used for the patch box is cut by the clip in force at that item"
abbrev pub cut_reach : {Shape : Type 0} → (Shape → IRect) → Step Shape → IRect
cut_reach reach s = meet s.under (reach s.drawn)

-- the boxes of the pairs
unfoldable pub reaches : {Shape : Type 0} → (Shape → IRect) → List (Pair Shape) → List IRect
reaches reach [] = []
reaches reach (p ∷ l) = cut_reach reach p.0 ∷ cut_reach reach p.1 ∷ reaches reach l

-- ---- what a call does

-- refuses, with number and item; or grounds a box and draws a sheet in it
pub data Outcome (Shape : Type 0) : Type 0 where
  refuses : ℕ → ℕ → Outcome Shape
  draws : Sheet Shape → IRect → Outcome Shape

-- up to 32 pairs of shapes may differ; more are refused by 14
unfoldable pub few : {Shape : Type 0} → List (Pair Shape) → Bool
few l = leb (length l) 32

unfoldable pub too_many : {Shape : Type 0} → Outcome Shape
too_many = refuses 14 0

unfoldable pub canvas : {Shape : Type 0} → Sheet Shape → IRect
canvas s = record { x0 = pos 0; y0 = pos 0; x1 = pos s.w; y1 = pos s.h }

unfoldable pub same_header : {Shape : Type 0} → Sheet Shape → Sheet Shape → Bool
same_header a b = (eqb a.w b.w && eqb a.h b.h) && eqb a.ground_pixel b.ground_pixel

-- refuses by a number that is not 0; else draws the sheet in the box
unfoldable pub draws_unless : {Shape : Type 0} → ℕ → Sheet Shape → IRect → Outcome Shape
draws_unless n s box = cond (eqb n 0) (draws s box) (refuses n 0)

module _ (F : Format) where
  -- the number by what is lent, the pitch, and px and scratch by their lengths: 15, then 8, then 9, or 0
  unfoldable pub lent_number : Sheet F.kind.Shape → ℕ → ℕ → ℕ → ℕ
  lent_number s pitch pxLen scratchLen =
      and_then (frame_number s.w s.h pitch pxLen) (unless (leb (F.need s.items) scratchLen) 9 0)

  unfoldable pub lent : Sheet F.kind.Shape → ℕ → ℕ → ℕ → IRect → Outcome F.kind.Shape
  lent s pitch pxLen scratchLen box = draws_unless (lent_number s pitch pxLen scratchLen) s box

  unfoldable pub paint_of : Reading F.kind.Shape → ℕ → ℕ → ℕ → Outcome F.kind.Shape
  paint_of (refused n k) pitch pxLen scratchLen = refuses n k
  paint_of (read s) pitch pxLen scratchLen = lent s pitch pxLen scratchLen (canvas s)

  -- how two sheets differ, each painted from nothing with a first clip
  abbrev pub change_in : IRect → Sheet F.kind.Shape → Sheet F.kind.Shape → Change F.kind.Shape
  change_in first a b = change F.same a.items b.items (only first) (only first)

  unfoldable pub patch_by : Change F.kind.Shape → Sheet F.kind.Shape → ℕ → ℕ → ℕ → Outcome F.kind.Shape
  patch_by other s pitch pxLen scratchLen = refuses 10 0
  patch_by (shapes l) s pitch pxLen scratchLen =
      cond (few l) (lent s pitch pxLen scratchLen (hull (canvas s) (reaches F.kind.reach l))) too_many

  unfoldable pub patch_of : Reading F.kind.Shape → Reading F.kind.Shape → ℕ → ℕ → ℕ → Outcome F.kind.Shape
  patch_of (refused n k) new pitch pxLen scratchLen = refuses n k
  patch_of (read a) (refused n k) pitch pxLen scratchLen = refuses n k
  patch_of (read a) (read b) pitch pxLen scratchLen =
      cond (same_header a b) (patch_by (change_in (canvas b) a b) b pitch pxLen scratchLen) (refuses 10 0)

  -- the outcome of painting some bytes, and of patching from old bytes to new ones
  unfoldable pub painting : List ℕ → ℕ → ℕ → ℕ → Outcome F.kind.Shape
  painting sheet = paint_of (F.reading sheet)

  unfoldable pub patching : List ℕ → List ℕ → ℕ → ℕ → ℕ → Outcome F.kind.Shape
  patching old new = patch_of (F.reading old) (F.reading new)

-- ---- number, item and box; px; scratch; the sheet that is kept

unfoldable pub refusal : ℕ → ℕ → Answer
refusal n k = record { number = n; item = k; area = no_box }

unfoldable pub answer : {Shape : Type 0} → Outcome Shape → Answer
answer (refuses n k) = refusal n k
answer (draws s box) = record { number = 0; item = 0; area = box }

-- px, in rows of `pitch` words
unfoldable pub pixels : (K : Kind) → ℕ → Outcome K.Shape → List ℕ → List ℕ
pixels K pitch (refuses n k) px = px
pixels K pitch (draws s box) px = items_on K pitch s.items (only box) (ground_in pitch box s.ground_pixel px)

module _ {Word : Type 0} (zero_word : Word) (F : Format) where
  unfoldable pub cleared : Outcome F.kind.Shape → List Word → List Word
  cleared (refuses n k) scratch = scratch
  cleared (draws s box) scratch = replicate (F.need s.items) zero_word ++ drop (F.need s.items) scratch

unfoldable pub accepted : {Shape : Type 0} → Outcome Shape → Bool
accepted (refuses n k) = false
accepted (draws s box) = true

-- The fresh painting of a sheet: every pixel begins with the ground, the canvas as clip and nothing saved, and the items are
-- drawn one after the other. It has w words a row: the pitch is no part of a sheet.
module _ (K : Kind) where
  unfoldable pub fresh : Sheet K.Shape → List ℕ
  fresh s = items_on K s.w s.items (only (canvas s)) (replicate (s.w * s.h) s.ground_pixel)
