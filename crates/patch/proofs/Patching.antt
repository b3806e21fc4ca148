-- The laws of a patch: its outcome at each of its tests, and its box. Assumes nothing.
use Prim.Native.Nat.{ℕ}
use mathlib.Core.Path.{◌≡◌, refl, ap, ◌∙◌}
use mathlib.Core.Bool.{true, false, cond}
use mathlib.Core.List.{List}
use mathlib.Core.Logic.{◌⊎◌, inl, inr}
use borrow.Author.Tests.{eq-eqb, ne_eqb}
use lib.Dec.{eqb}
use lib.IntN.{pos}
use Rattle.geom.specs.Box.{empty, no_box, hull}
use Rattle.geom.specs.declared.IRect.{IRect}
use Rattle.geom.proofs.Bools.{split}
use Rattle.geom.proofs.Boxes.{Within, edges, hull_in_frame}
use Rattle.gfx.specs.State.{clip_ok}
use Rattle.gfx.proofs.Valid.{clip_of}
use Rattle.sheet.specs.Check.{width_of, height_of, verdict, sheet_check}
use Rattle.items.specs.Format.{kind, sheet_of, reading, format}
use Rattle.redraw.specs.Sheet.{Reading, read, Change, other, shapes, reaches, few, canvas, same_header, refuses, draws, lent_number, lent, patch_of, patching}
use Rattle.compare.specs.Compare.{found, change_number, change_box}
use Rattle.compare.proofs.Changes.{patch_by_lem}
use Rattle.compare.proofs.Walks.{found_is}
use Rattle.items.proofs.Readings.{reads_accepted}
use Rattle.redraw.proofs.Rules.{lent_refused, lent_draws}

-- ---- the outcome

module _ (old new : List ℕ) (p : sheet_check old ≡ verdict 0 0) (q : sheet_check new ≡ verdict 0 0) (pitch n words : ℕ) where
  abbrev box : IRect
  box = change_box (canvas (sheet_of new)) (found old new)

  both : patching format old new pitch n words ≡ patch_of format (read (sheet_of old)) (read (sheet_of new)) pitch n words
  unfolding patching
  both =
      ap (λ (r : Reading (List ℕ)). patch_of format r (reading new) pitch n words) (reads_accepted old p)
      ∙ ap (λ (r : Reading (List ℕ)). patch_of format (read (sheet_of old)) r pitch n words) (reads_accepted new q)

  pub other_header : same_header (sheet_of old) (sheet_of new) ≡ false → patching format old new pitch n words ≡ refuses 10 0
  unfolding patch_of
  other_header h = both ∙ rw h

  module _ (h : same_header (sheet_of old) (sheet_of new) ≡ true) where
    by_change : patching format old new pitch n words ≡ cond (eqb (change_number (found old new)) 0) (lent format (sheet_of new) pitch n words box) (refuses (change_number (found old new)) 0)
    unfolding patch_of
    by_change = both ∙ rw (h, ← found_is old new q) (patch_by_lem (found old new) (sheet_of new) pitch n words)

    pub not_allowed : (change_number (found old new) ≡ 0 → ⊥) → patching format old new pitch n words ≡ refuses (change_number (found old new)) 0
    not_allowed k = by_change ∙ rw (ne_eqb _ 0 k)

    module _ (z : change_number (found old new) ≡ 0) where
      pub not_lent : (m : ℕ) → lent_number format (sheet_of new) pitch n words ≡ m → (m ≡ 0 → ⊥) → patching format old new pitch n words ≡ refuses m 0
      not_lent m e k = by_change ∙ rw (eq-eqb _ 0 z) (lent_refused format (sheet_of new) pitch n words box m e k)

      pub drawn_new : lent_number format (sheet_of new) pitch n words ≡ 0 → patching format old new pitch n words ≡ draws (sheet_of new) box
      drawn_new k = by_change ∙ rw (eq-eqb _ 0 z) (lent_draws format (sheet_of new) pitch n words box k)

-- ---- the box

hull_in : (frame : IRect) (bs : List IRect) → (empty (hull frame bs) ≡ true) ⊎ Within frame (hull frame bs)
hull_in frame bs =
    split (empty (hull frame bs)) (λ t. (t ≡ true) ⊎ Within frame (hull frame bs)) (λ e. inl refl)
    (λ e. inr (edges (hull frame bs) e frame (hull_in_frame frame bs)))

none_in : (frame : IRect) → (empty no_box ≡ true) ⊎ Within frame no_box
unfolding empty no_box
none_in frame = inl refl

-- the box is empty or lies in the canvas
box_in : (frame : IRect) (c : Change (List ℕ)) → (empty (change_box frame c) ≡ true) ⊎ Within frame (change_box frame c)
unfolding change_box
box_in frame other = none_in frame
box_in frame (shapes l) =
    split (few l) (λ t. (empty (cond t (hull frame (reaches kind.reach l)) no_box) ≡ true) ⊎ Within frame (cond t (hull frame (reaches kind.reach l)) no_box))
    (λ e. hull_in frame (reaches kind.reach l)) (λ e. none_in frame)

pub box_clip : (old new : List ℕ) → clip_ok (pos (width_of new)) (pos (height_of new)) (change_box (canvas (sheet_of new)) (found old new)) ≡ true
unfolding canvas
box_clip old new = clip_of (pos (width_of new)) (pos (height_of new)) _ (box_in (canvas (sheet_of new)) (found old new))
