-- How two runs of items differ: counts that differ, what the items seen so far tell with those after them, and a turn of the loop. Assumes
-- nothing.
use Prim.Native.Nat.{ℕ, suc, ◌+◌}
use mathlib.Core.Path.{◌≡◌, refl, sym, ◌∙◌}
use mathlib.Core.Bool.{Bool, true, false, cond, ◌&&◌, true≢false}
use mathlib.Core.List.{List, []}
use native.Mathlib.Nat.{zero-add}
use native.Mathlib.Numerals.{add-one}
use native.Mathlib.Omega.{arith}
use borrow.Author.Tests.{eq-eqb, ne_eqb}
use lib.Dec.{eqb, leb}
use lib.ListN.{length}
use Rattle.std.specs.Prelude.{⊤, Ok, Err}
use Rattle.std.specs.declared.result.Result.{Result}
use Rattle.geom.specs.Refusals.{tested}
use Rattle.geom.specs.declared.checks.Refusal.{Refusal}
use Rattle.geom.specs.Box.{no_box, meet, join, join_all, hull}
use Rattle.geom.specs.declared.IRect.{IRect}
use Rattle.geom.proofs.Bools.{and_left, and_right}
use Rattle.geom.proofs.Boxes.{join_assoc, join_none}
use Rattle.sheet.specs.Check.{count_of, bytes_at}
use Rattle.redraw.specs.Drawing as drawing
use Rattle.redraw.specs.Drawing.{push, pop, shape}
use Rattle.redraw.specs.Sheet.{Change, other, shapes, with_pair, both_shapes, few, reaches, Sheet, refuses, canvas, lent, too_many, patch_by}
use Rattle.items.specs.Items.{item_of}
use Rattle.items.specs.Format.{kind, format, item_in, same_item}
use Rattle.gfx.specs.declared.Canvas.{Canvas}
use Rattle.clips.specs.States.{start_of, state_after, is_shape}
use Rattle.clips.proofs.Shapes.{shape_own, shape_leaves}
use Rattle.compare.specs.Compare.{Difference, change_from, found, change_number, change_box, told, changed_by, settled, same_at}

-- ---- a test and what it returned

pub held : (ok : Bool) (r : Refusal) {x : Result ⊤ Refusal} {u : ⊤} → x ≡ tested ok r → x ≡ Ok u → ok ≡ true
held true r t e = refl
held false r t e = let h = sym e ∙ t in cc

pub failed : (ok : Bool) (r : Refusal) {x : Result ⊤ Refusal} {e : Refusal} → x ≡ tested ok r → x ≡ Err e → ok ≡ false
failed true r t f = let h = sym f ∙ t in cc
failed false r t f = refl

-- ---- what differences tell

-- what is told where `seen` pairs of shapes differ, with `area` around what their reaches, under their clips, have in the frame, and the items
-- after them differ so
unfoldable pub told_after : IRect → ℕ → IRect → Change (List ℕ) → Difference
told_after frame seen area other = told 10 no_box
told_after frame seen area (shapes l) = settled (seen + length l) (join area (hull frame (reaches kind.reach l)))

module _ (frame : IRect) where
  -- nothing seen yet
  pub told_first : (c : Change (List ℕ)) → changed_by frame c ≡ told_after frame 0 no_box c
  unfolding change_number change_box told_after few
  told_first other = refl
  told_first (shapes l) = rw (zero-add (length l), join_none (hull frame (reaches kind.reach l))) (go (leb (length l) 32) (hull frame (reaches kind.reach l)))
    where
      go : (t : Bool) (box : IRect) → told (cond t 0 14) (cond t box no_box) ≡ cond t (told 0 box) (told 14 no_box)
      go true box = refl
      go false box = refl

  module _ (seen : ℕ) (area : IRect) where
    -- what is no shape differs
    pub told_other : (u : IRect) (i j : drawing.Item (List ℕ)) (c : Change (List ℕ)) (both : Bool) → both ≡ is_shape i && is_shape j → both ≡ false
        → told_after frame seen area (both_shapes u u i j c) ≡ told 10 no_box
    unfolding is_shape both_shapes told_after
    told_other u (push a p) j c both s e = refl
    told_other u (pop a) j c both s e = refl
    told_other u (shape a) (push b q) c both s e = refl
    told_other u (shape a) (pop b) c both s e = refl
    told_other u (shape a) (shape b) c both s e = absurd (true≢false (sym s ∙ e))

    -- a pair of shapes more, under the clip u
    module _ (u : IRect) where
      abbrev cut : List ℕ → IRect
      cut a = meet frame (meet u (kind.reach a))

      pair : (a b : List ℕ) (c : Change (List ℕ))
          → told_after frame seen area (with_pair (record { under = u; drawn = a }) (record { under = u; drawn = b }) c)
          ≡ told_after frame (seen + 1) (join (join area (cut a)) (cut b)) c
      unfolding with_pair told_after reaches join_all
      pair a b other = refl
      pair a b (shapes l) =
          let n : seen + suc (length l) ≡ seen + 1 + length l = omega arith in
          let h = hull frame (reaches kind.reach l) in
          let e = join_assoc (join area (cut a)) (cut b) h ∙ join_assoc area (cut a) (join (cut b) h) in
          rw (n, e)

      pub told_pair : (a b : List ℕ) (c : Change (List ℕ)) (both : Bool) → both ≡ is_shape (item_in a) && is_shape (item_in b) → both ≡ true
          → told_after frame seen area (both_shapes u u (item_in a) (item_in b) c) ≡ told_after frame (seen + 1) (join (join area (cut a)) (cut b)) c
      unfolding both_shapes
      told_pair a b c both s t =
          let e = sym s ∙ t in
          rw (shape_own a (item_of a) (and_left _ (is_shape (item_in b)) e), shape_own b (item_of b) (and_right (is_shape (item_in a)) _ e)) (pair a b c)

-- a patch by a difference: refused by its number, or drawn in the box
pub patch_by_lem : (c : Change (List ℕ)) (s : Sheet (List ℕ)) (pitch pxLen scratchLen : ℕ)
    → patch_by format c s pitch pxLen scratchLen
    ≡ cond (eqb (change_number c) 0) (lent format s pitch pxLen scratchLen (change_box (canvas s) c)) (refuses (change_number c) 0)
unfolding patch_by too_many change_number change_box
patch_by_lem other s pitch pxLen scratchLen = refl
patch_by_lem (shapes l) s pitch pxLen scratchLen = go (few l) (hull (canvas s) (reaches kind.reach l))
  where
    go : (t : Bool) (box : IRect)
        → cond t (lent format s pitch pxLen scratchLen box) (refuses 14 0)
        ≡ cond (eqb (cond t 0 14) 0) (lent format s pitch pxLen scratchLen (cond t box no_box)) (refuses (cond t 0 14) 0)
    go true box = refl
    go false box = refl

-- ---- runs of items

module _ (old new : List ℕ) where
  pub counts_differ : (frame : IRect) → (count_of old ≡ count_of new → ⊥) → changed_by frame (found old new) ≡ told 10 no_box
  unfolding change_number change_box
  counts_differ frame h = rw (ne_eqb (count_of old) (count_of new) h)

  pub even : (n : ℕ) → n ≡ count_of old → n ≡ count_of new → found old new ≡ change_from old new n 0 (start_of new)
  even n p q = rw (eq-eqb (count_of old) (count_of new) (sym p ∙ q), ← q)

  -- the items k by their bytes
  pub same_of : (k : ℕ) {a b : List ℕ} → a ≡ bytes_at old k → b ≡ bytes_at new k → (same : Bool) → same ≡ same_item (item_in a) (item_in b) → same ≡ same_at old new k
  unfolding same_at
  same_of k p q same s = s ∙ rw (p, q)

  -- the items from k on, of which m are left after it, where the items k are the same, and where they differ
  module _ (left m k : ℕ) (l : left ≡ m + 1) (c : Canvas) where
    pub same_turn : (same : Bool) → same ≡ same_at old new k → same ≡ true
        → change_from old new left k c ≡ change_from old new m (k + 1) (state_after (item_of (bytes_at new k)) c)
    unfolding change_from
    same_turn same s e = rw (l, add-one, sym s ∙ e)

    -- a shape leaves the state
    pub shape_turn : (same : Bool) → same ≡ same_at old new k → same ≡ true → (a : Bool) → a ≡ is_shape (item_in (bytes_at new k)) → a ≡ true
        → change_from old new left k c ≡ change_from old new m (k + 1) c
    shape_turn same s e a i t =
        same_turn same s e ∙ rw (shape_leaves (bytes_at new k) (item_of (bytes_at new k)) c (sym i ∙ t))

    pub other_turn : (same : Bool) → same ≡ same_at old new k → same ≡ false
        → change_from old new left k c ≡ both_shapes c.clip c.clip (item_in (bytes_at old k)) (item_in (bytes_at new k)) (change_from old new m (k + 1) c)
    unfolding change_from
    other_turn same s e = rw (l, add-one, sym s ∙ e)

  pub no_turn : (left k : ℕ) (c : Canvas) → left ≡ 0 → change_from old new left k c ≡ shapes []
  unfolding change_from
  no_turn left k c l = rw l
