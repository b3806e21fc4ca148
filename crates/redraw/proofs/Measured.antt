-- The room that a sheet takes: the most clips and the pixels, an item more; and the words are the least that painting wants. Assumes nothing.
use mathlib.Core.Bool.{Bool, true, false, cond}
use mathlib.Core.List.{List, [], ◌∷◌}
use mathlib.Core.Path.{◌≡◌, refl, ap}
use Prim.Native.Nat.{ℕ, ◌+◌, ◌*◌, ◌≤◌, ◌<◌}
use native.Mathlib.Omega.{arith}
use lib.Dec.{eqb}
use lib.ListN.{length}
use borrow.Author.Tests.{le-leb, lt-leb, eq-eqb}
use Rattle.geom.specs.Refusals.{unless, and_then}
use Rattle.draw.specs.Frame.{pitch_ok, pitch_number, frame_number}
use Rattle.geom.specs.Box.{hull}
use Rattle.geom.specs.declared.IRect.{IRect}
use Rattle.redraw.specs.Drawing.{Item, push, pop, shape, Clips, after, with_step, steps, Kind}
use Rattle.redraw.specs.Sheet.{Format, Sheet, Reading, read, refused, Change, other, shapes, change_in, reaches, refuses, draws, few, too_many, canvas, same_header, draws_unless, lent_number, lent, paint_of, patch_by, patch_of, painting, patching}
use Rattle.redraw.specs.Measure.{deepest, met, met_all, room_of, measuring, Least}
use Rattle.redraw.proofs.Rules.{paint_unlent}

-- as many clips as are saved now
pub deepest_least : {Shape : Type 0} (r : List (Item Shape)) (c : Clips) → length c.saved ≤ deepest r c
unfolding deepest
deepest_least [] c = omega arith
deepest_least (i ∷ r) c = omega arith

-- the pixels of an item: those of a shape, none of a push or a pop
module _ (K : Kind) (w h : ℕ) where
  unfoldable pub met_of : Item K.Shape → Clips → ℕ
  met_of (push s b) c = 0
  met_of (pop s) c = 0
  met_of (shape a) c = met K w h (record { under = c.clip; drawn = a })

  pub met_turn : (i : Item K.Shape) (r : List (Item K.Shape)) (c : Clips)
      → met_all K w h (steps (i ∷ r) c) ≡ met_of i c + met_all K w h (steps r (after i c))
  unfolding steps with_step met_all met_of
  met_turn (push s b) r c = omega arith
  met_turn (pop s) r c = omega arith
  met_turn (shape a) r c = refl

-- ---- the words told are the least

module _ (F : Format) where
  told : (sheet : List ℕ) (s : Sheet F.kind.Shape) → F.reading sheet ≡ read s → (measuring F sheet).words ≡ F.need s.items
  unfolding measuring room_of
  told sheet s e = ap (λ (r : Reading F.kind.Shape). (room_of F r).words) e

  -- with words enough the number of what is lent is not 9
  lent_enough : (s : Sheet F.kind.Shape) (pitch pl sl : ℕ) (box : IRect) (k : ℕ) → F.need s.items ≤ sl → lent F s pitch pl sl box ≡ refuses 9 k → ⊥
  unfolding lent draws_unless lent_number frame_number pitch_number
  lent_enough s pitch pl sl box k l q = by (pitch_ok s.w pitch) (eqb pl (pitch * s.h)) (rw (le-leb (F.need s.items) sl l) at q)
    where
      by : (t u : Bool) → cond (eqb (and_then (and_then (unless t 15 0) (unless u 8 0)) 0) 0) (draws s box) (refuses (and_then (and_then (unless t 15 0) (unless u 8 0)) 0) 0) ≡ refuses 9 k → ⊥
      by true true q = let z : ◌≡◌ {A = ℕ} 0 1 = cc in omega arith
      by true false q = let z : ◌≡◌ {A = ℕ} 8 9 = cc in omega arith
      by false u q = let z : ◌≡◌ {A = ℕ} 15 9 = cc in omega arith

  -- with fewer it is, where px is h rows of a pitch in its range
  lent_fewer : (s : Sheet F.kind.Shape) (pitch sl : ℕ) → pitch_ok s.w pitch ≡ true → sl < F.need s.items → lent_number F s pitch (pitch * s.h) sl ≡ 9
  unfolding lent_number frame_number pitch_number
  lent_fewer s pitch sl r l = rw (r, eq-eqb (pitch * s.h) (pitch * s.h) refl, lt-leb (F.need s.items) sl l)

  change_enough : (c : Change F.kind.Shape) (s : Sheet F.kind.Shape) (pitch pl sl k : ℕ) → F.need s.items ≤ sl → patch_by F c s pitch pl sl ≡ refuses 9 k → ⊥
  unfolding patch_by too_many
  change_enough other s pitch pl sl k l q = let z : ◌≡◌ {A = ℕ} 10 9 = cc in omega arith
  change_enough (shapes p) s pitch pl sl k l q = by (few p) q
    where
      by : (t : Bool) → cond t (lent F s pitch pl sl (hull (canvas s) (reaches F.kind.reach p))) (refuses 14 0) ≡ refuses 9 k → ⊥
      by true q = lent_enough s pitch pl sl _ k l q
      by false q = let z : ◌≡◌ {A = ℕ} 14 9 = cc in omega arith

  -- for a format whose reading has no use for that number
  module _ (unused : (sheet : List ℕ) (k : ℕ) → F.reading sheet ≡ refused 9 k → ⊥) (sheet : List ℕ) where
    enough : (r : Reading F.kind.Shape) → F.reading sheet ≡ r → (pitch pl sl k : ℕ) → (measuring F sheet).words ≤ sl → painting F sheet pitch pl sl ≡ refuses 9 k → ⊥
    unfolding painting paint_of
    enough (read s) e pitch pl sl k l q = lent_enough s pitch pl sl (canvas s) k (rw (told sheet s e) at l) (rw e at q)
    enough (refused n i) e pitch pl sl k l q =
        let nine : n ≡ 9 = cc in
        unused sheet i (rw nine at e)

    fewer : (s : Sheet F.kind.Shape) → F.reading sheet ≡ read s → (pitch : ℕ) → pitch_ok s.w pitch ≡ true → (sl : ℕ) → sl < (measuring F sheet).words
        → painting F sheet pitch (pitch * s.h) sl ≡ refuses 9 0
    fewer s e pitch r sl l = paint_unlent F sheet pitch (pitch * s.h) sl s e 9 (lent_fewer s pitch sl r (rw (told sheet s e) at l)) (λ z. omega arith)

    module _ (old : List ℕ) (pitch pl sl k : ℕ) (l : (measuring F sheet).words ≤ sl) where
      patched : (r o : Reading F.kind.Shape) → F.reading sheet ≡ r → F.reading old ≡ o → patch_of F o r pitch pl sl ≡ refuses 9 k → ⊥
      unfolding patch_of
      patched r (refused n i) e d q =
          let nine : n ≡ 9 = cc in
          unused old i (rw nine at d)
      patched (refused n i) (read a) e d q =
          let nine : n ≡ 9 = cc in
          unused sheet i (rw nine at e)
      patched (read s) (read a) e d q = by (same_header a s) q
        where
          by : (t : Bool) → cond t (patch_by F (change_in F (canvas s) a s) s pitch pl sl) (refuses 10 0) ≡ refuses 9 k → ⊥
          by true q = change_enough _ s pitch pl sl k (rw (told sheet s e) at l) q
          by false q = let z : ◌≡◌ {A = ℕ} 10 9 = cc in omega arith

    pub least : Least F sheet (measuring F sheet).words
    unfolding patching
    least =
        record {
          enough = enough (F.reading sheet) refl;
          fewer = fewer;
          patched = λ old pitch pl sl k l q. patched old pitch pl sl k l (F.reading sheet) (F.reading old) refl refl q;
        }
