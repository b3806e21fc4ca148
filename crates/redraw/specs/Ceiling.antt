-- A CEILING ON PATCH WORK (document 02, 2026-06; by the reach of 2026-09: "The counts of 2026-06 use it too"), over any format;
-- at the sheet of document 01 it is proved in replay proofs/Theorem.
use Rattle.std.specs.Prelude.{true, cond, List, [], ◌∷◌, ◌≡◌, ℕ, ◌+◌, ◌-◌, ◌*◌, ◌≤◌}
use Rattle.geom.specs.declared.IRect.{IRect}
use Rattle.geom.specs.Int.{up}
use Rattle.geom.specs.Box.{meet, empty}
use Rattle.draw.specs.Parts.{Part}
use Rattle.redraw.specs.declared.Reply.{Reply}
use Rattle.redraw.specs.Drawing.{Item, push, pop, shape, Clips, only, after, Kind}
use Rattle.redraw.specs.Sheet.{Format, Reading, refused, read, canvas}
use Rattle.redraw.specs.Calls.{Patched}

-- "the box's area": columns times rows. A reported box is four zeros or lies in the canvas, so it has no negative side.
abbrev pub box_area : IRect → ℕ
box_area b = (up b.x1 - up b.x0) * (up b.y1 - up b.y0)

-- how many of a shape's parts have a reach that, cut by the clip in force at the shape, meets a box, that is, shares a pixel with
-- it
unfoldable pub parts_meeting : IRect → IRect → List Part → ℕ
parts_meeting box clip [] = 0
parts_meeting box clip (a ∷ l) = cond (empty (meet box (meet clip a.reach))) 0 1 + parts_meeting box clip l

module _ (K : Kind) where
  -- "the number of shapes": a shape that is one part stands once where its reach meets the box; "In that number a chain stands
  -- once for each of its segments whose reach meets the box", since its segments are its parts
  -- from the clips c
  unfoldable pub shapes_meeting : IRect → List (Item K.Shape) → Clips → ℕ
  shapes_meeting box [] c = 0
  shapes_meeting box (push s b ∷ r) c = shapes_meeting box r (after {Shape = K.Shape} (push s b) c)
  shapes_meeting box (pop s ∷ r) c = shapes_meeting box r (after {Shape = K.Shape} (pop s) c)
  shapes_meeting box (shape a ∷ r) c = parts_meeting box c.clip (K.parts a) + shapes_meeting box r c

  -- "the number of shapes in the new sheet whose reach meets the reported box": of what its bytes were read as, painted from
  -- nothing
  unfoldable pub read_meeting : IRect → Reading K.Shape → ℕ
  read_meeting box (refused n k) = 0
  read_meeting box (read s) = shapes_meeting box s.items (only (canvas s))

  -- what is claimed of a patch that returned r. "Both are the numbers returned by the patch itself": r's own, as the box is.
  pub record Ceiling (new : Reading K.Shape) (r : Reply) : Type 0 where
    -- "the shape count of 2026-05 is at most the number of shapes in the new sheet whose reach meets the reported box, times the
    -- box's area"
    pub shapes : r.steps ≤ read_meeting r.answer.area new * box_area r.answer.area
    -- "The ground count is at most the area."
    pub grounds : r.grounded ≤ box_area r.answer.area
    -- "an empty box gives zero twice"
    pub none : empty r.answer.area ≡ true → (r.steps ≡ 0) × (r.grounded ≡ 0)

module _ {Word : Type 0} (zero_word : Word) (F : Format) where
  -- "For every accepted patch": for any bytes, pitch, px and scratch that `patch` was given, and what it returned and left, by
  -- its contract. A refused patch has four zeros and no counts, and is not left out.
  abbrev pub PatchCeiling : Type 0
  PatchCeiling =
      (old new : List ℕ) (pitch : ℕ) (px : List ℕ) (scratch : List Word) (r : Reply) (px' : List ℕ) (scratch' : List Word)
      → Patched zero_word F old new pitch px scratch r px' scratch'
      → Ceiling F.kind (F.reading new) r
