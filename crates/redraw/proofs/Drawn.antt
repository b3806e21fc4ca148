-- The laws of drawing, over any kind of shape.
--     first_clip   inside two first clips, the items give a pixel the same value under either
--     untouched    lists of items that differ only in shapes agree on a pixel that none of those shapes reaches under its clip
--     redrawn      drawing new items in a box on pixels that show the old ones leaves pixels that show the new ones
-- Assumes nothing.
use mathlib.Core.Bool.{Bool, true, false, ◌&&◌, ◌||◌}
use mathlib.Core.List.{List, [], ◌∷◌}
use mathlib.Core.Path.{◌≡◌, refl, sym, ap, ◌∙◌}
use Prim.Native.Nat.{ℕ, zero, suc, ◌+◌, ◌/◌, ◌%◌, ◌<◌}
use native.Mathlib.Omega.{arith}
use native.Mathlib.Nat.{add-zero, add-suc, suc-add, zero-add}
use lib.IntN.{ℤ, pos}
use lib.ListN.{length, get_or}
use Rattle.geom.specs.declared.IRect.{IRect}
use Rattle.geom.specs.Box.{inside, meet, in_any, HoldsEach}
use Rattle.redraw.specs.Drawing.{Item, push, pop, shape, Clips, only, popped, after, Step, with_step, steps, Kind, meets, inked, pixel, pixel_of, word_in, painted_in}
use Rattle.draw.specs.Draw.{each_at}
use Rattle.redraw.specs.Sheet.{Pair, Change, other, shapes, with_pair, both_shapes, change, cut_reach, reaches}
use Rattle.geom.proofs.Bools.{or_false, same_test}
use Rattle.geom.proofs.Boxes.{in_meet, held_any}

pub never : ◌≡◌ {A = ℕ} 0 1 → ⊥
never z = omega arith

-- ---- the first clip

-- two lists of saved clips that agree on a pixel
pub data Alike (x y : ℤ) : List IRect → List IRect → Type 0 where
  none : Alike x y [] []
  more : {c d : IRect} {s t : List IRect} → inside c x y ≡ inside d x y → Alike x y s t → Alike x y (c ∷ s) (d ∷ t)

module _ (K : Kind) (x y : ℕ) where
  -- clips that agree on the pixel, in force and saved
  pub record Agree (c d : Clips) : Type 0 where
    pub clips : inside c.clip (pos x) (pos y) ≡ inside d.clip (pos x) (pos y)
    pub saves : Alike (pos x) (pos y) c.saved d.saved

  agree_popped : (c d : IRect) {s t : List IRect} → inside c (pos x) (pos y) ≡ inside d (pos x) (pos y) → Alike (pos x) (pos y) s t
      → Agree (popped c s) (popped d t)
  unfolding popped
  agree_popped c d e none = record { clips = e; saves = none }
  agree_popped c d e (more f a) = record { clips = f; saves = a }

  pub agree_after : (i : Item K.Shape) (c d : Clips) → Agree c d → Agree (after i c) (after i d)
  unfolding after
  agree_after (push s b) c d a = record {
    clips = in_meet c.clip b (pos x) (pos y) ∙ ap (λ (t : Bool). t && inside b (pos x) (pos y)) a.clips ∙ sym (in_meet d.clip b (pos x) (pos y));
    saves = more a.clips a.saves;
  }
  agree_after (pop s) c d a = agree_popped c.clip d.clip a.clips a.saves
  agree_after (shape b) c d a = a

  pub same_clips : (items : List (Item K.Shape)) (c d : Clips) (p : ℕ) → Agree c d
      → pixel K (steps items c) x y p ≡ pixel K (steps items d) x y p
  unfolding steps with_step after pixel meets
  same_clips [] c d p a = refl
  same_clips (push s b ∷ r) c d p a = same_clips r _ _ p (agree_after (push s b) c d a)
  same_clips (pop s ∷ r) c d p a = same_clips r _ _ p (agree_after (pop s) c d a)
  same_clips (shape b ∷ r) c d p a =
      let m : Bool → ℕ = λ i. inked K (i && inside (K.reach b) (pos x) (pos y)) b x y p in
      same_clips r c d (m (inside c.clip (pos x) (pos y))) a ∙ ap (λ (i : Bool). pixel K (steps r d) x y (m i)) a.clips

  pub first_clip : (items : List (Item K.Shape)) (c d : IRect) (ground_pixel : ℕ)
      → inside c (pos x) (pos y) ≡ true → inside d (pos x) (pos y) ≡ true
      → pixel_of K items c ground_pixel x y ≡ pixel_of K items d ground_pixel x y
  unfolding pixel_of
  first_clip items c d ground_pixel p q = same_clips items (only c) (only d) ground_pixel (record { clips = cc; saves = none })

-- ---- a pixel that no differing shape reaches

-- two lists of items that are equal but for pairs of shapes, from the clips c: so the clips of both are the same all along
pub data Edited {Shape : Type 0} : List (Item Shape) → List (Item Shape) → Clips → List (Pair Shape) → Type 0 where
  none : {c : Clips} → Edited [] [] c []
  keep : (i : Item Shape) {r s : List (Item Shape)} {c : Clips} {l : List (Pair Shape)} → Edited r s (after i c) l → Edited (i ∷ r) (i ∷ s) c l
  swap : (a b : Shape) {r s : List (Item Shape)} {c : Clips} {l : List (Pair Shape)} → Edited r s c l
      → Edited (shape a ∷ r) (shape b ∷ s) c ((record { under = c.clip; drawn = a }, record { under = c.clip; drawn = b }) ∷ l)

-- one item more, that is the same in both, or differs: either way the clips of each list go on by its own item
module _ {Shape : Type 0} (same : Item Shape → Item Shape → Bool) (i j : Item Shape) (r s : List (Item Shape)) (c d : Clips) where
  pub change_same : same i j ≡ true → change same (i ∷ r) (j ∷ s) c d ≡ change same r s (after i c) (after j d)
  unfolding change
  change_same e = rw e

  pub change_other : same i j ≡ false → change same (i ∷ r) (j ∷ s) c d ≡ both_shapes c.clip d.clip i j (change same r s (after i c) (after j d))
  unfolding change
  change_other e = rw e

-- such lists have been read off by `change`
module _ {Shape : Type 0} (same : Item Shape → Item Shape → Bool) (sound : (i j : Item Shape) → same i j ≡ true → i ≡ j) where
  with_pair_lem : (a b : Shape) {r s : List (Item Shape)} (u : Clips) (c : Change Shape) (l : List (Pair Shape))
      → ((k : List (Pair Shape)) → c ≡ shapes k → Edited r s u k)
      → with_pair (record { under = u.clip; drawn = a }) (record { under = u.clip; drawn = b }) c ≡ shapes l → Edited (shape a ∷ r) (shape b ∷ s) u l
  unfolding with_pair
  with_pair_lem a b u other l f e = absurd (never cc)
  with_pair_lem a b u (shapes k) l f e =
      let q : (record { under = u.clip; drawn = a }, record { under = u.clip; drawn = b }) ∷ k ≡ l = cc in rw (← q) (swap a b (f k refl))

  both_shapes_lem : (i j : Item Shape) (r s : List (Item Shape)) (u : Clips) (l : List (Pair Shape))
      → ((k : List (Pair Shape)) → change same r s u u ≡ shapes k → Edited r s u k)
      → both_shapes u.clip u.clip i j (change same r s (after i u) (after j u)) ≡ shapes l → Edited (i ∷ r) (j ∷ s) u l
  unfolding both_shapes after
  both_shapes_lem (push p b) j r s u l f e = absurd (never cc)
  both_shapes_lem (pop p) j r s u l f e = absurd (never cc)
  both_shapes_lem (shape a) (push p b) r s u l f e = absurd (never cc)
  both_shapes_lem (shape a) (pop p) r s u l f e = absurd (never cc)
  both_shapes_lem (shape a) (shape b) r s u l f e = with_pair_lem a b u (change same r s u u) l f e

  pub edited : (r s : List (Item Shape)) (u : Clips) (l : List (Pair Shape)) → change same r s u u ≡ shapes l → Edited r s u l
  unfolding change
  edited [] [] u l e = let q : [] ≡ l = cc in rw (← q) none
  edited [] (j ∷ s) u l e = absurd (never cc)
  edited (i ∷ r) [] u l e = absurd (never cc)
  edited (i ∷ r) (j ∷ s) u l e = go (same i j) refl (edited r s)
    where
      go : (t : Bool) → same i j ≡ t → ((w : Clips) (k : List (Pair Shape)) → change same r s w w ≡ shapes k → Edited r s w k) → Edited (i ∷ r) (j ∷ s) u l
      go true p f = rw (← sound i j p) (keep i (f (after i u) l (rw (← sound i j p) at (sym (change_same same i j r s u u p) ∙ e))))
      go false p f = both_shapes_lem i j r s u l (f u) (sym (change_other same i j r s u u p) ∙ e)

module _ (K : Kind) (x y : ℕ) where
  -- a step that does not meet the pixel leaves it
  missed : (t : Step K.Shape) (p : ℕ) → inside (cut_reach K.reach t) (pos x) (pos y) ≡ false → inked K (meets K t x y) t.drawn x y p ≡ p
  unfolding inked meets
  missed t p e = ap (λ (m : Bool). inked K m t.drawn x y p) (sym (in_meet t.under (K.reach t.drawn) (pos x) (pos y)) ∙ e)

  -- the pixels of a pair are those of both its shapes
  in_pair : (a b : Step K.Shape) (l : List (Pair K.Shape)) → in_any (reaches K.reach ((a, b) ∷ l)) (pos x) (pos y)
      ≡ inside (meet a.under (K.reach a.drawn)) (pos x) (pos y) || (inside (meet b.under (K.reach b.drawn)) (pos x) (pos y) || in_any (reaches K.reach l) (pos x) (pos y))
  unfolding in_any reaches
  in_pair a b l = refl

  out_pair : (a b : Step K.Shape) (l : List (Pair K.Shape)) → in_any (reaches K.reach ((a, b) ∷ l)) (pos x) (pos y) ≡ false
      → (inside (cut_reach K.reach a) (pos x) (pos y) ≡ false) × (inside (cut_reach K.reach b) (pos x) (pos y) ≡ false)
      × (in_any (reaches K.reach l) (pos x) (pos y) ≡ false)
  out_pair a b l o =
      let u = or_false (inside (cut_reach K.reach a) (pos x) (pos y)) _ (sym (in_pair a b l) ∙ o) in
      let v = or_false (inside (cut_reach K.reach b) (pos x) (pos y)) _ u.1 in
      (u.0, v.0, v.1)

  pub untouched : {r s : List (Item K.Shape)} {c : Clips} {l : List (Pair K.Shape)} → Edited r s c l
      → in_any (reaches K.reach l) (pos x) (pos y) ≡ false
      → (p : ℕ) → pixel K (steps r c) x y p ≡ pixel K (steps s c) x y p
  unfolding steps with_step after pixel
  untouched none o p = refl
  untouched (keep (push s b) e) o p = untouched e o p
  untouched (keep (pop s) e) o p = untouched e o p
  untouched (keep (shape a) e) o p = untouched e o _
  untouched (swap a b {r = r} {s = s} {c = c} {l = l} e) o p =
      let u = out_pair _ _ l o in
      ap (λ (q : ℕ). pixel K (steps r c) x y q) (missed _ p u.0)
      ∙ untouched e u.2 p
      ∙ sym (ap (λ (q : ℕ). pixel K (steps s c) x y q) (missed _ p u.1))

-- ---- lists by place

pub length_each : (f : ℕ → ℕ → ℕ) (k : ℕ) (ps : List ℕ) → length (each_at f k ps) ≡ length ps
unfolding each_at
length_each f k [] = refl
length_each f k (p ∷ ps) = ap suc (length_each f (suc k) ps)

pub get_d_each : (f : ℕ → ℕ → ℕ) (k : ℕ) (ps : List ℕ) (i : ℕ) → i < length ps → get_or (each_at f k ps) i 0 ≡ f (k + i) (get_or ps i 0)
unfolding each_at
get_d_each f k [] i h = absurd (omega arith)
get_d_each f k (p ∷ ps) zero h = rw add-zero
get_d_each f k (p ∷ ps) (suc i) h = rw (add-suc, ← suc-add) (get_d_each f (suc k) ps i (omega arith))

-- ---- drawing in a box

module _ (K : Kind) (pitch : ℕ) where
  -- whether the word at i lies in the box
  abbrev pub holds_word : IRect → ℕ → Bool
  holds_word box i = inside box (pos (i % pitch)) (pos (i / pitch))

  -- the words of px that lie in `frame` are those of the items drawn from nothing with `frame` as first clip
  pub record Shows (frame : IRect) (ground_pixel : ℕ) (items : List (Item K.Shape)) (px : List ℕ) : Type 0 where
    pub shows : (i : ℕ) → i < length px → holds_word frame i ≡ true → get_or px i 0 ≡ pixel_of K items frame ground_pixel (i % pitch) (i / pitch)

  pub length_drawn : (box : IRect) (ground_pixel : ℕ) (items : List (Item K.Shape)) (px : List ℕ)
      → length (painted_in K pitch box ground_pixel items px) ≡ length px
  unfolding painted_in
  length_drawn box ground_pixel items px = length_each _ 0 px

  pub word_drawn : (box : IRect) (ground_pixel : ℕ) (items : List (Item K.Shape)) (px : List ℕ) (i : ℕ) → i < length px
      → get_or (painted_in K pitch box ground_pixel items px) i 0 ≡ word_in K (holds_word box i) items box ground_pixel (i % pitch) (i / pitch) (get_or px i 0)
  unfolding painted_in
  word_drawn box ground_pixel items px i h = get_d_each _ 0 px i h ∙ rw zero-add

  -- a word outside the box is as it was
  pub outside_kept : (box : IRect) (ground_pixel : ℕ) (items : List (Item K.Shape)) (px : List ℕ) (i : ℕ) → i < length px
      → holds_word box i ≡ false → get_or (painted_in K pitch box ground_pixel items px) i 0 ≡ get_or px i 0
  unfolding word_in
  outside_kept box ground_pixel items px i h o = word_drawn box ground_pixel items px i h ∙ rw o

  pub inside_drawn : (box : IRect) (ground_pixel : ℕ) (items : List (Item K.Shape)) (px : List ℕ) (i : ℕ) → i < length px
      → holds_word box i ≡ true → get_or (painted_in K pitch box ground_pixel items px) i 0 ≡ pixel_of K items box ground_pixel (i % pitch) (i / pitch)
  unfolding word_in
  inside_drawn box ground_pixel items px i h o = word_drawn box ground_pixel items px i h ∙ rw o

  -- drawing in the frame itself shows the items, whatever was there
  pub painted : (frame : IRect) (ground_pixel : ℕ) (items : List (Item K.Shape)) (px : List ℕ)
      → Shows frame ground_pixel items (painted_in K pitch frame ground_pixel items px)
  painted frame ground_pixel items px =
      record { shows = λ i h f. inside_drawn frame ground_pixel items px i (rw length_drawn at h) f }

  -- drawing in a box that holds what differing shapes have in the frame
  pub redrawn : (frame box : IRect) (ground_pixel : ℕ) (r s : List (Item K.Shape)) (l : List (Pair K.Shape)) (px : List ℕ)
      → Edited r s (only frame) l → HoldsEach box frame (reaches K.reach l)
      → Shows frame ground_pixel r px → Shows frame ground_pixel s (painted_in K pitch box ground_pixel s px)
  redrawn frame box ground_pixel r s l px e h old = record { shows = λ i k f. go i (rw length_drawn at k) f (holds_word box i) refl }
    where
      out : (i : ℕ) → holds_word frame i ≡ true → holds_word box i ≡ false → in_any (reaches K.reach l) (pos (i % pitch)) (pos (i / pitch)) ≡ false
      out i f b =
          same_test _ false (λ a. let z = held_any box frame (reaches K.reach l) h (pos (i % pitch)) (pos (i / pitch)) f a in cc) (λ z. cc)

      go : (i : ℕ) → i < length px → holds_word frame i ≡ true → (t : Bool) → holds_word box i ≡ t
          → get_or (painted_in K pitch box ground_pixel s px) i 0 ≡ pixel_of K s frame ground_pixel (i % pitch) (i / pitch)
      go i k f true b =
          inside_drawn box ground_pixel s px i k b ∙ first_clip K (i % pitch) (i / pitch) s box frame ground_pixel b f
      go i k f false b =
          outside_kept box ground_pixel s px i k b ∙ old.shows i k f
          ∙ unfold pixel_of in untouched K (i % pitch) (i / pitch) e (out i f b) ground_pixel
