-- How two sheets differ, by the states of the canvas along the new one's items, is redraw's `change` by the clips of both, where the new sheet is
-- accepted (`found_is`). Assumes nothing.
use Prim.Native.Nat.{ℕ, zero, suc, ◌+◌}
use mathlib.Core.Path.{◌≡◌, refl, sym, ap, ◌∙◌}
use mathlib.Core.Bool.{Bool, true, false, cond, false≢true}
use mathlib.Core.List.{List}
use native.Mathlib.Omega.{arith}
use borrow.Author.Tests.{eqb-true, eqb-false}
use lib.Dec.{eqb}
use Rattle.geom.specs.declared.IRect.{IRect}
use Rattle.gfx.specs.declared.Canvas.{Canvas}
use Rattle.sheet.specs.Check.{width_of, count_of, bytes_at, verdict, sheet_check}
use Rattle.redraw.specs.Drawing as drawing
use Rattle.redraw.specs.Drawing.{push, pop, shape, Clips, only, after}
use Rattle.redraw.specs.Sheet.{Change, other, with_pair, both_shapes, change, change_in, canvas}
use Rattle.items.specs.Items.{item_of}
use Rattle.items.specs.Format.{item_in, items_from, sheet_of, same_item, format}
use Rattle.items.proofs.Lawful.{lawful}
use Rattle.clips.specs.States.{start_of, state_after, is_shape}
use Rattle.clips.proofs.Clips.{clips_of}
use Rattle.clips.proofs.Shapes.{shape_leaves}
use Rattle.clips.proofs.Standing.{Standing, stands_start, clips_start, stands_next, clips_next}
use Rattle.compare.specs.Compare.{same_at, change_from, found}

-- ---- two items that differ

both_other : (u v : IRect) (i j : drawing.Item (List ℕ)) → both_shapes u v i j other ≡ other
unfolding both_shapes with_pair
both_other u v (push a p) j = refl
both_other u v (pop a) j = refl
both_other u v (shape a) (push b q) = refl
both_other u v (shape a) (pop b) = refl
both_other u v (shape a) (shape b) = refl

-- what follows them matters where both are shapes
both_same : (u : IRect) (i j : drawing.Item (List ℕ)) (x y : Change (List ℕ)) → (is_shape i ≡ true → is_shape j ≡ true → x ≡ y)
    → both_shapes u u i j x ≡ both_shapes u u i j y
unfolding both_shapes is_shape
both_same u (push a p) j x y h = refl
both_same u (pop a) j x y h = refl
both_same u (shape a) (push b q) x y h = refl
both_same u (shape a) (pop b) x y h = refl
both_same u (shape a) (shape b) x y h = ap (λ (c : Change (List ℕ)). with_pair (record { under = u; drawn = a }) (record { under = u; drawn = b }) c) (h refl refl)

after_shape : (i : drawing.Item (List ℕ)) (c : Clips) → is_shape i ≡ true → after i c ≡ c
unfolding is_shape after
after_shape (push a p) c e = absurd (false≢true e)
after_shape (pop a) c e = absurd (false≢true e)
after_shape (shape a) c e = refl

-- ---- runs of items

module _ (old new : List ℕ) where
  -- how runs from the item k on differ, by redraw
  abbrev rest : ℕ → ℕ → ℕ → Clips → Clips → Change (List ℕ)
  rest left right k c d = change same_item (items_from old left k) (items_from new right k) c d

  -- runs of different lengths
  uneven : (left right k : ℕ) (c d : Clips) → (left ≡ right → ⊥) → rest left right k c d ≡ other
  unfolding change items_from same_at
  uneven zero zero k c d h = absurd (h refl)
  uneven zero (suc right) k c d h = refl
  uneven (suc left) zero k c d h = refl
  uneven (suc left) (suc right) k c d h =
      rw (uneven left right (k + 1) (after (item_in (bytes_at old k)) c) (after (item_in (bytes_at new k)) d) (λ e. h (ap suc e))) (go (same_at old new k))
    where
      go : (t : Bool) → cond t other (both_shapes c.clip d.clip (item_in (bytes_at old k)) (item_in (bytes_at new k)) other) ≡ other
      go true = refl
      go false = both_other c.clip d.clip (item_in (bytes_at old k)) (item_in (bytes_at new k))

  module _ (e : sheet_check new ≡ verdict 0 0) where
    -- `left` items from k on, from a state that stands before the item k
    from_is : (left k : ℕ) → k + left ≡ count_of new → (c : Canvas) → Standing new (width_of new) k c
        → change_from old new left k c ≡ rest left left k (clips_of c) (clips_of c)
    unfolding change_from change items_from same_at
    from_is zero k q c st = refl
    from_is (suc left) k q c st =
        go (same_at old new k) refl (stands_next new (width_of new) e k (omega arith) c st) (clips_next new (width_of new) e k (omega arith) c st)
        (from_is left (k + 1) (omega arith))
      where
        i : drawing.Item (List ℕ)
        i = item_in (bytes_at old k)

        j : drawing.Item (List ℕ)
        j = item_in (bytes_at new k)

        next : Canvas
        next = state_after (item_of (bytes_at new k)) c

        go : (t : Bool) → same_item i j ≡ t → Standing new (width_of new) (k + 1) next → clips_of next ≡ after j (clips_of c)
            → ((d : Canvas) → Standing new (width_of new) (k + 1) d → change_from old new left (k + 1) d ≡ rest left left (k + 1) (clips_of d) (clips_of d))
            → cond t (change_from old new left (k + 1) next) (both_shapes c.clip c.clip i j (change_from old new left (k + 1) c))
            ≡ cond t (rest left left (k + 1) (after i (clips_of c)) (after j (clips_of c)))
            (both_shapes c.clip c.clip i j (rest left left (k + 1) (after i (clips_of c)) (after j (clips_of c))))
        go true p stands clips f =
            f next stands
            ∙ ap (λ (d : Clips). rest left left (k + 1) d d) clips
            ∙ ap (λ (m : drawing.Item (List ℕ)). rest left left (k + 1) (after m (clips_of c)) (after j (clips_of c))) (sym (lawful.sound i j p))
        go false p stands clips f =
            both_same c.clip i j _ _
            (λ a b. f c (rw (shape_leaves (bytes_at new k) (item_of (bytes_at new k)) c b) at stands)
            ∙ rw (after_shape i (clips_of c) a, after_shape j (clips_of c) b))

    pub found_is : found old new ≡ change_in format (canvas (sheet_of new)) (sheet_of old) (sheet_of new)
    found_is = go (eqb (count_of old) (count_of new)) refl
      where
        first : Clips
        first = only (canvas (sheet_of new))

        go : (t : Bool) → eqb (count_of old) (count_of new) ≡ t
            → cond t (change_from old new (count_of new) 0 (start_of new)) other ≡ rest (count_of old) (count_of new) 0 first first
        go true p =
            rw (eqb-true (count_of old) (count_of new) p)
            (from_is (count_of new) 0 (omega arith) (start_of new) (stands_start new e) ∙ ap (λ (d : Clips). rest (count_of new) (count_of new) 0 d d) (clips_start new))
        go false p = sym (uneven (count_of old) (count_of new) 0 first first (eqb-false (count_of old) (count_of new) p))
