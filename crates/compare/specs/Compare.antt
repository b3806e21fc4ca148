-- How two sheets differ (document 01, a patch; document 02, 2026-01 and 2026-09), by any bytes. Where the new sheet is accepted
-- it is redraw's `change` at the format of items (proofs/Walks). No call of the library cites this file: `changed`, which `patch`
-- calls, does. Assumes nothing.
use Rattle.std.specs.Prelude.{ℕ, zero, suc, ◌+◌, Bool, cond, List, [], eqb, leb, Ok, Err}
use Rattle.std.specs.declared.result.Result.{Result}
use Rattle.geom.specs.Box.{no_box, hull}
use Rattle.geom.specs.Refusals.{code}
use Rattle.geom.specs.declared.IRect.{IRect}
use Rattle.geom.specs.declared.checks.Refusal.{Refusal}
use Rattle.gfx.specs.declared.Canvas.{Canvas}
use Rattle.sheet.specs.Check.{count_of, bytes_at}
use Rattle.redraw.specs.Sheet.{Change, other, shapes, both_shapes, few, reaches}
use Rattle.items.specs.Items.{item_of}
use Rattle.items.specs.Format.{kind, item_in, same_item}
use Rattle.clips.specs.States.{start_of, state_after}

-- ---- item by item

unfoldable pub same_at : List ℕ → List ℕ → ℕ → Bool
same_at old new k = same_item (item_in (bytes_at old k)) (item_in (bytes_at new k))

-- how `left` items from the item k on differ, in the state c of the canvas before it, whose clip is that of both sheets: items
-- that are the same alter it, and those that differ are shapes in both, which leave it
unfoldable pub change_from : List ℕ → List ℕ → ℕ → ℕ → Canvas → Change (List ℕ)
change_from old new zero k c = shapes []
change_from old new (suc left) k c =
    cond (same_at old new k) (change_from old new left (k + 1) (state_after (item_of (bytes_at new k)) c))
    (both_shapes c.clip c.clip (item_in (bytes_at old k)) (item_in (bytes_at new k)) (change_from old new left (k + 1) c))

-- ---- how all of them do, and what that tells

abbrev pub found : List ℕ → List ℕ → Change (List ℕ)
found old new = cond (eqb (count_of old) (count_of new)) (change_from old new (count_of new) 0 (start_of new)) other

-- the number: 10 for a push, a pop or the count, then 14 for more than 32 shapes
unfoldable pub change_number : Change (List ℕ) → ℕ
change_number other = 10
change_number (shapes l) = cond (few l) 0 14

-- the box: the smallest around the reaches, each first cut by its clip and to the canvas
unfoldable pub change_box : IRect → Change (List ℕ) → IRect
change_box frame other = no_box
change_box frame (shapes l) = cond (few l) (hull frame (reaches kind.reach l)) no_box

-- the number that a patch is refused with, 0 where it is not, and the box that it redraws
pub record Difference : Type 0 where
  pub number : ℕ
  pub area : IRect

abbrev pub told : ℕ → IRect → Difference
told number area = record { number = number; area = area }

abbrev pub changed_by : IRect → Change (List ℕ) → Difference
changed_by frame c = told (change_number c) (change_box frame c)

-- what a result tells: 0 and the box, or the number of a refusal and no box
abbrev pub told_by : Result IRect Refusal → Difference
told_by (Ok area) = told 0 area
told_by (Err r) = told (code r) no_box

-- what n pairs of shapes tell, with the box around what their reaches, under their clips, have in the canvas
abbrev pub settled : ℕ → IRect → Difference
settled n area = cond (leb n 32) (told 0 area) (told 14 no_box)
