-- Smaller boxes under a clip, over any format.
--     own_steps     the shapes of the pairs that differ, with their clips, are steps of their own sheets, as painting from nothing has them
--     one_clip      "The clips of old and new sheet agree there, since pushes and pops do."
--     smaller       numbers and items are those of before, and the box lies in the one of before
--     as_before     a sheet without a push has the box of before
--     fewer         the ceiling counts no more shapes than before
-- Assumes nothing.
use mathlib.Core.Bool.{Bool, true, false, cond, true≢false}
use mathlib.Core.List.{List, [], ◌∷◌}
use mathlib.Core.Path.{◌≡◌, refl, sym, ap, ◌∙◌}
use Prim.Native.Nat.{ℕ, ◌≤◌}
use native.Mathlib.Omega.{arith}
use lib.Dec.{eqb}
use Rattle.geom.specs.declared.IRect.{IRect}
use Rattle.geom.specs.Box.{meet, join_all, hull, Holds, HoldsAll, HoldsEach, empty}
use Rattle.geom.proofs.Boxes.{in_meet, meet_left, meet_right, meet_twice, holds_full, holds_trans, hull_smallest}
use Rattle.geom.proofs.Bools.{and_both}
use Rattle.redraw.specs.Drawing.{Item, push, pop, shape, Clips, only, popped, after, Step, with_step, steps, Kind}
use Rattle.draw.specs.Parts.{Part}
use Rattle.redraw.specs.Sheet.{Format, Lawful, Sheet, Reading, refused, read, Pair, Change, other, shapes, with_pair, both_shapes, change, reaches, refuses, draws, few, too_many, canvas, same_header, draws_unless, lent_number, lent, change_in, patch_by, patch_of, patching}
use Rattle.redraw.specs.Ceiling.{parts_meeting, shapes_meeting}
use Rattle.redraw.specs.Before.{whole_parts, whole_meeting, Fewer, whole_reaches, whole_by, whole_of, whole_patching, Narrower, as_refused, within, Unpushed, Smaller, AsBefore}
use Rattle.redraw.proofs.Drawn.{never, Edited, none, keep, swap, change_same, change_other, edited}

-- ---- the clips of the pairs

-- a list whose elements stand in another, in its order
pub data Sublist {A : Type 0} : List A → List A → Type 0 where
  done : Sublist [] []
  skip : (a : A) {k l : List A} → Sublist k l → Sublist k (a ∷ l)
  take : (a : A) {k l : List A} → Sublist k l → Sublist (a ∷ k) (a ∷ l)

-- the old shapes of the pairs, and the new ones
unfoldable pub olds : {Shape : Type 0} → List (Pair Shape) → List (Step Shape)
olds [] = []
olds (p ∷ l) = p.0 ∷ olds l

unfoldable pub news : {Shape : Type 0} → List (Pair Shape) → List (Step Shape)
news [] = []
news (p ∷ l) = p.1 ∷ news l

skip_item : {Shape : Type 0} (i : Item Shape) (u : IRect) {k l : List (Step Shape)} → Sublist k l → Sublist k (with_step i u l)
unfolding with_step
skip_item (push s b) u f = f
skip_item (pop s) u f = f
skip_item (shape a) u f = skip _ f

module _ {Shape : Type 0} (same : Item Shape → Item Shape → Bool) where
  -- where the items r and s differ in pairs l, as x says: the old shapes are steps of r from the clips c, the new ones steps of s from d
  abbrev Own : List (Item Shape) → List (Item Shape) → Clips → Clips → Change Shape → Type 0
  Own r s c d x = (l : List (Pair Shape)) → x ≡ shapes l → Sublist (olds l) (steps r c) × Sublist (news l) (steps s d)

  own_pair : (a b : Shape) (r s : List (Item Shape)) (c d : Clips) (x : Change Shape) → Own r s c d x
      → Own (shape a ∷ r) (shape b ∷ s) c d (with_pair (record { under = c.clip; drawn = a }) (record { under = d.clip; drawn = b }) x)
  unfolding with_pair steps with_step after olds news
  own_pair a b r s c d other f l e = absurd (never cc)
  own_pair a b r s c d (shapes k) f l e =
      let q : (record { under = c.clip; drawn = a }, record { under = d.clip; drawn = b }) ∷ k ≡ l = cc in
      let o = f k refl in
      rw (← q) (take _ o.0, take _ o.1)

  own_both : (i j : Item Shape) (r s : List (Item Shape)) (c d : Clips) (x : Change Shape) → Own r s (after i c) (after j d) x
      → Own (i ∷ r) (j ∷ s) c d (both_shapes c.clip d.clip i j x)
  unfolding both_shapes after
  own_both (push p b) j r s c d x f l e = absurd (never cc)
  own_both (pop p) j r s c d x f l e = absurd (never cc)
  own_both (shape a) (push p b) r s c d x f l e = absurd (never cc)
  own_both (shape a) (pop p) r s c d x f l e = absurd (never cc)
  own_both (shape a) (shape b) r s c d x f l e = own_pair a b r s c d x f l e

  pub own_steps : (r s : List (Item Shape)) (c d : Clips) → Own r s c d (change same r s c d)
  unfolding change steps olds news
  own_steps [] [] c d l e = let q : [] ≡ l = cc in rw (← q) (done, done)
  own_steps [] (j ∷ s) c d l e = absurd (never cc)
  own_steps (i ∷ r) [] c d l e = absurd (never cc)
  own_steps (i ∷ r) (j ∷ s) c d l e = go (same i j) refl (own_steps r s (after i c) (after j d))
    where
      go : (t : Bool) → same i j ≡ t → Own r s (after i c) (after j d) (change same r s (after i c) (after j d))
          → Sublist (olds l) (steps (i ∷ r) c) × Sublist (news l) (steps (j ∷ s) d)
      go true p f = let o = f l (sym (change_same same i j r s c d p) ∙ e) in (skip_item i c.clip o.0, skip_item j d.clip o.1)
      go false p f = own_both i j r s c d _ f l (sym (change_other same i j r s c d p) ∙ e)

-- both shapes of each pair have one clip
unfoldable pub OneClip : {Shape : Type 0} → List (Pair Shape) → Type 0
OneClip [] = Unit {0}
OneClip (p ∷ l) = (p.0.under ≡ p.1.under) × OneClip l

pub one_clip : {Shape : Type 0} {r s : List (Item Shape)} {c : Clips} {l : List (Pair Shape)} → Edited r s c l → OneClip l
unfolding OneClip
one_clip none = tt
one_clip (keep i e) = one_clip e
one_clip (swap a b e) = (refl, one_clip e)

-- ---- the box by cut reaches lies in the box by whole ones

cut_within : (frame u b : IRect) → Holds (meet frame b) (meet frame (meet u b))
cut_within frame u b = record {
  holds = λ x y e.
      in_meet frame b x y
      ∙ and_both ((meet_left frame (meet u b)).holds x y e) ((meet_right u b).holds x y ((meet_right frame (meet u b)).holds x y e));
}

module _ {Shape : Type 0} (reach : Shape → IRect) (frame : IRect) where
  all_cut : (big : IRect) (l : List (Pair Shape)) → HoldsEach big frame (whole_reaches reach l) → HoldsEach big frame (reaches reach l)
  unfolding HoldsAll reaches whole_reaches
  all_cut big [] h = tt
  all_cut big (p ∷ l) h =
      (holds_trans h.0 (cut_within frame p.0.under (reach p.0.drawn)), (holds_trans h.1.0 (cut_within frame p.1.under (reach p.1.drawn)), all_cut big l h.1.1))

  hull_within : (l : List (Pair Shape)) → Holds (hull frame (whole_reaches reach l)) (hull frame (reaches reach l))
  hull_within l =
      (hull_smallest frame (reaches reach l)).least (hull frame (whole_reaches reach l))
      (all_cut _ l (hull_smallest frame (whole_reaches reach l)).around)

module _ (F : Format) where
  lent_within : (s : Sheet F.kind.Shape) (pitch pl sl : ℕ) {small big : IRect} → Holds big small
      → Narrower (lent F s pitch pl sl small) (lent F s pitch pl sl big)
  unfolding lent draws_unless
  lent_within s pitch pl sl {small} {big} h = go (eqb (lent_number F s pitch pl sl) 0)
    where
      n : ℕ
      n = lent_number F s pitch pl sl

      go : (t : Bool) → Narrower (cond t (draws s small) (refuses n 0)) (cond t (draws s big) (refuses n 0))
      go true = within s h
      go false = as_refused n 0

  by_within : (c : Change F.kind.Shape) (s : Sheet F.kind.Shape) (pitch pl sl : ℕ) → Narrower (patch_by F c s pitch pl sl) (whole_by F c s pitch pl sl)
  unfolding patch_by whole_by too_many
  by_within other s pitch pl sl = as_refused 10 0
  by_within (shapes l) s pitch pl sl = go (few l)
    where
      go : (t : Bool) → Narrower (cond t (lent F s pitch pl sl (hull (canvas s) (reaches F.kind.reach l))) too_many)
          (cond t (lent F s pitch pl sl (hull (canvas s) (whole_reaches F.kind.reach l))) too_many)
      go true = lent_within s pitch pl sl (hull_within F.kind.reach (canvas s) l)
      go false = as_refused 14 0

  pub smaller : Smaller F
  unfolding patching patch_of whole_patching whole_of
  smaller old new pitch pl sl = go (F.reading old) (F.reading new)
    where
      by_header : (a b : Sheet F.kind.Shape) (t : Bool)
          → Narrower (cond t (patch_by F (change_in F (canvas b) a b) b pitch pl sl) (refuses 10 0)) (cond t (whole_by F (change_in F (canvas b) a b) b pitch pl sl) (refuses 10 0))
      by_header a b true = by_within (change_in F (canvas b) a b) b pitch pl sl
      by_header a b false = as_refused 10 0

      go : (r t : Reading F.kind.Shape) → Narrower (patch_of F r t pitch pl sl) (whole_of F r t pitch pl sl)
      go (refused n k) t = as_refused n k
      go (read a) (refused n k) = as_refused n k
      go (read a) (read b) = by_header a b (same_header a b)

-- ---- a sheet without a push

module _ {Shape : Type 0} (reach : Shape → IRect) (frame : IRect) where
  same_hull : {r s : List (Item Shape)} {c : Clips} {l : List (Pair Shape)} → Edited r s c l → c ≡ only frame → Unpushed s
      → hull frame (reaches reach l) ≡ hull frame (whole_reaches reach l)
  unfolding Unpushed after popped reaches whole_reaches join_all
  same_hull none q u = refl
  same_hull (keep (push p b) e) q u = absurd u
  same_hull (keep (pop p) e) q u = same_hull e (rw q) u
  same_hull (keep (shape a) e) q u = same_hull e q u
  same_hull (swap a b e) q u = rw (q, meet_twice frame (reach a), meet_twice frame (reach b), same_hull e q u)

module _ (F : Format) (law : Lawful F) where
  by_unpushed : (a b : Sheet F.kind.Shape) (pitch pl sl : ℕ) → Unpushed b.items
      → (c : Change F.kind.Shape) → change_in F (canvas b) a b ≡ c → patch_by F c b pitch pl sl ≡ whole_by F c b pitch pl sl
  unfolding patch_by whole_by
  by_unpushed a b pitch pl sl u other e = refl
  by_unpushed a b pitch pl sl u (shapes l) e =
      ap (λ (box : IRect). cond (few l) (lent F b pitch pl sl box) too_many)
      (same_hull F.kind.reach (canvas b) (edited F.same law.sound a.items b.items (only (canvas b)) l e) refl u)

  pub as_before : AsBefore F
  unfolding patching patch_of whole_patching whole_of
  as_before old new s pitch pl sl q u =
      ap (λ (t : Reading F.kind.Shape). patch_of F (F.reading old) t pitch pl sl) q
      ∙ go (F.reading old)
      ∙ ap (λ (t : Reading F.kind.Shape). whole_of F (F.reading old) t pitch pl sl) (sym q)
    where
      go : (r : Reading F.kind.Shape) → patch_of F r (read s) pitch pl sl ≡ whole_of F r (read s) pitch pl sl
      go (refused n k) = refl
      go (read a) = rw (by_unpushed a s pitch pl sl u (change_in F (canvas s) a s) refl)

-- ---- the ceiling

part_fewer : (box u b : IRect) → cond (empty (meet box (meet u b))) 0 1 ≤ cond (empty (meet box b)) 0 1
part_fewer box u b = go (empty (meet box (meet u b))) (empty (meet box b)) (λ e. holds_full (meet box b) (meet box (meet u b)) (cut_within box u b) e)
  where
    go : (s t : Bool) → (s ≡ false → t ≡ false) → cond s 0 1 ≤ cond t 0 1
    go true t h = omega arith
    go false true h = absurd (true≢false (h refl))
    go false false h = omega arith

parts_fewer : (box u : IRect) (l : List Part) → parts_meeting box u l ≤ whole_parts box l
unfolding parts_meeting whole_parts
parts_fewer box u [] = omega arith
parts_fewer box u (a ∷ l) = omega (arith, part_fewer box u a.reach, parts_fewer box u l)

pub fewer : (K : Kind) → Fewer K
unfolding shapes_meeting whole_meeting
fewer K box [] c = omega arith
fewer K box (push s b ∷ r) c = fewer K box r _
fewer K box (pop s ∷ r) c = fewer K box r _
fewer K box (shape a ∷ r) c = omega (arith, parts_fewer box c.clip (K.parts a), fewer K box r c)
