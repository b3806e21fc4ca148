-- WHAT IS CLAIMED of every sheet that is accepted (request 2026-11). Proved in proofs/Theorem. The sentences in quotes are the
-- document's; `Painted` is the contract of `paint`, word for word.
use Rattle.std.specs.Prelude.{ℕ, ◌≤◌, true, List, ◌≡◌, Float, length}
use Rattle.sheet.specs.Check.{verdict, sheet_check}
use Rattle.redraw.specs.declared.Reply.{Reply}
use Rattle.redraw.specs.Sheet.{painting, accepted, fresh}
use Rattle.redraw.specs.Calls.{Shown, Painted, Call, Follow, Always}
use Rattle.redraw.specs.Shed.{shed_of}
use Rattle.items.specs.Format.{kind, needs, format, zero_word, sheet_of}
use Rattle.compact.specs.Compact.{compacted}

-- "It paints to the same pixels": the sheet t in place of s
pub record SamePixels (s t : List ℕ) : Type 0 where
  -- its fresh painting is that of s
  pub from_nothing : fresh kind (sheet_of t) ≡ fresh kind (sheet_of s)
  -- where s is painted so is t, with the same pitch, pixels and scratch
  pub served : (pitch pixels words : ℕ) → accepted (painting format s pitch pixels words) ≡ true
      → accepted (painting format t pitch pixels words) ≡ true
  -- an accepted painting of each on the same px, with whatever scratch: they return the same, box and counts too, and every word
  -- of px is the same, those past the canvas too
  pub same : (pitch : ℕ) (px : List ℕ) (u v : List Float) (a b : Reply) (px' qx : List ℕ) (u' v' : List Float)
      → Painted zero_word format s pitch px u a px' u' → Painted zero_word format t pitch px v b qx v'
      → a.answer.number ≡ 0 → b.answer.number ≡ 0 → (b ≡ a) × (qx ≡ px')
  -- px that shows s shows t: a list of patches goes on from t, and all of demand 3 holds along it
  pub goes_on : (pitch : ℕ) (before px : List ℕ) (calls : List (Call Float)) → Shown format pitch before s px
      → Follow zero_word format t px calls → Always format pitch before t px calls

pub record Sheds (s : List ℕ) : Type 0 where
  -- "shapes whose reach under their clip is empty are dropped, all other items keep their bytes and order": read again, it is the
  -- sheet without them
  pub reads : sheet_of (compacted s) ≡ shed_of kind (sheet_of s)
  -- it passes every check of a sheet
  pub checked : sheet_check (compacted s) ≡ verdict 0 0
  pub paints : SamePixels s (compacted s)
  -- "compacting it again yields the same bytes"
  pub again : compacted (compacted s) ≡ compacted s
  -- it is not longer, so that a buffer of the sheet's length is enough, and needs no more scratch
  pub shorter : length (compacted s) ≤ length s
  pub need : needs (sheet_of (compacted s)).items ≤ needs (sheet_of s).items
