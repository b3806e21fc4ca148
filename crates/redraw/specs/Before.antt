-- SMALLER BOXES UNDER A CLIP (document 02, 2026-09): patching and its ceiling by the rule of before, which knew whole reaches
-- alone, and what is claimed of it. Proved in proofs/Cuts; no call cites it.
use Rattle.std.specs.Prelude.{cond, List, [], ◌∷◌, ◌≡◌, ℕ, ◌+◌, ◌≤◌}
use Rattle.geom.specs.declared.IRect.{IRect}
use Rattle.geom.specs.Box.{meet, empty, hull, Holds}
use Rattle.draw.specs.Parts.{Part}
use Rattle.redraw.specs.Drawing.{Item, push, pop, shape, Clips, Kind}
use Rattle.redraw.specs.Sheet.{Format, Sheet, Reading, refused, read, Pair, Change, other, shapes, Outcome, refuses, draws}
use Rattle.redraw.specs.Sheet.{few, too_many, canvas, same_header, lent, change_in, patching}
use Rattle.redraw.specs.Ceiling.{shapes_meeting}

-- "shapes clipped to a narrow column still report their full reach": the boxes of the pairs, whatever their clips
unfoldable pub whole_reaches : {Shape : Type 0} → (Shape → IRect) → List (Pair Shape) → List IRect
whole_reaches reach [] = []
whole_reaches reach (p ∷ l) = reach p.0.drawn ∷ reach p.1.drawn ∷ whole_reaches reach l

module _ (F : Format) where
  -- `patch_by`, `patch_of` and `patching` by these boxes
  unfoldable pub whole_by : Change F.kind.Shape → Sheet F.kind.Shape → ℕ → ℕ → ℕ → Outcome F.kind.Shape
  whole_by other s pitch pxLen scratchLen = refuses 10 0
  whole_by (shapes l) s pitch pxLen scratchLen =
      cond (few l) (lent F s pitch pxLen scratchLen (hull (canvas s) (whole_reaches F.kind.reach l))) too_many

  unfoldable pub whole_of : Reading F.kind.Shape → Reading F.kind.Shape → ℕ → ℕ → ℕ → Outcome F.kind.Shape
  whole_of (refused n k) new pitch pxLen scratchLen = refuses n k
  whole_of (read a) (refused n k) pitch pxLen scratchLen = refuses n k
  whole_of (read a) (read b) pitch pxLen scratchLen =
      cond (same_header a b) (whole_by (change_in F (canvas b) a b) b pitch pxLen scratchLen) (refuses 10 0)

  unfoldable pub whole_patching : List ℕ → List ℕ → ℕ → ℕ → ℕ → Outcome F.kind.Shape
  whole_patching old new = whole_of (F.reading old) (F.reading new)

-- two outcomes: the same number and item; or the same sheet, in a box that lies in the other's
pub data Narrower {Shape : Type 0} : Outcome Shape → Outcome Shape → Type 0 where
  as_refused : (n k : ℕ) → Narrower (refuses n k) (refuses n k)
  within : (s : Sheet Shape) {small big : IRect} → Holds big small → Narrower (draws s small) (draws s big)

-- no item is a push
unfoldable pub Unpushed : {Shape : Type 0} → List (Item Shape) → Type 0
Unpushed [] = Unit {0}
Unpushed (push s b ∷ r) = ⊥
Unpushed (pop s ∷ r) = Unpushed r
Unpushed (shape a ∷ r) = Unpushed r

-- "the number of shapes in the new sheet whose reach meets the reported box", whatever their clips
unfoldable pub whole_parts : IRect → List Part → ℕ
whole_parts box [] = 0
whole_parts box (a ∷ l) = cond (empty (meet box a.reach)) 0 1 + whole_parts box l

module _ (K : Kind) where
  unfoldable pub whole_meeting : IRect → List (Item K.Shape) → ℕ
  whole_meeting box [] = 0
  whole_meeting box (push s b ∷ r) = whole_meeting box r
  whole_meeting box (pop s ∷ r) = whole_meeting box r
  whole_meeting box (shape a ∷ r) = whole_parts box (K.parts a) + whole_meeting box r

  -- the ceiling is lower, if anything: for any box, items and clips no more shapes are counted
  abbrev pub Fewer : Type 0
  Fewer = (box : IRect) (items : List (Item K.Shape)) (c : Clips) → shapes_meeting K box items c ≤ whole_meeting box items

module _ (F : Format) where
  -- for any bytes, pitch and lengths of px and scratch: numbers and items stay as they were, and the box lies in the one of
  -- before
  abbrev pub Smaller : Type 0
  Smaller = (old new : List ℕ) (pitch pxLen scratchLen : ℕ)
      → Narrower (patching F old new pitch pxLen scratchLen) (whole_patching F old new pitch pxLen scratchLen)

  -- a new sheet without a push: all is as it was, the box too
  abbrev pub AsBefore : Type 0
  AsBefore =
      (old new : List ℕ) (s : Sheet F.kind.Shape) (pitch pxLen scratchLen : ℕ) → F.reading new ≡ read s → Unpushed s.items
      → patching F old new pitch pxLen scratchLen ≡ whole_patching F old new pitch pxLen scratchLen
