-- Item by item is pixel by pixel: what a box set to the ground, and items drawn one after the other, each on what the one before left,
-- leave in each pixel. This is what a loop over the items leans on. Assumes nothing.
use mathlib.Core.Bool.{Bool, true, false, cond, ◌&&◌}
use mathlib.Core.List.{List, [], ◌∷◌}
use mathlib.Core.Path.{◌≡◌, refl, ap, ◌∙◌}
use Prim.Native.Nat.{ℕ, ◌/◌, ◌%◌, ◌<◌}
use native.Mathlib.Nat.{zero-add}
use lib.IntN.{pos}
use lib.ListN.{length, get_or}
use Rattle.geom.specs.declared.IRect.{IRect}
use Rattle.geom.specs.Box.{inside}
use Rattle.redraw.specs.Drawing.{Item, push, pop, shape, Clips, popped, after, with_step, steps, Kind, meets, inked, pixel, shape_on, item_on, items_on, ground_in}
use Rattle.draw.specs.Draw as Draw
use Rattle.draw.proofs.Clips as Clips
use Rattle.geom.proofs.Boxes.{in_meet}
use Rattle.redraw.proofs.Drawn.{length_each, get_d_each}

-- ---- a pixel outside the first clip stays

module _ (K : Kind) (x y : ℕ) where
  -- no saved clip has the pixel
  pub data Dark : List IRect → Type 0 where
    none : Dark []
    more : {c : IRect} {s : List IRect} → inside c (pos x) (pos y) ≡ false → Dark s → Dark (c ∷ s)

  pub record Out (c : Clips) : Type 0 where
    pub clips : inside c.clip (pos x) (pos y) ≡ false
    pub saves : Dark c.saved

  out_popped : (c : IRect) {s : List IRect} → inside c (pos x) (pos y) ≡ false → Dark s → Out (popped c s)
  unfolding popped
  out_popped c e none = record { clips = e; saves = none }
  out_popped c e (more f d) = record { clips = f; saves = d }

  pub out_after : (i : Item K.Shape) (c : Clips) → Out c → Out (after i c)
  unfolding after
  out_after (push s b) c o = record { clips = rw (in_meet, o.clips); saves = more o.clips o.saves }
  out_after (pop s) c o = out_popped c.clip o.clips o.saves
  out_after (shape a) c o = o

  pub out_stays : (items : List (Item K.Shape)) (c : Clips) (p : ℕ) → Out c → pixel K (steps items c) x y p ≡ p
  unfolding steps with_step after pixel meets inked
  out_stays [] c p o = refl
  out_stays (push s b ∷ r) c p o = out_stays r _ p (out_after (push s b) c o)
  out_stays (pop s ∷ r) c p o = out_stays r _ p (out_after (pop s) c o)
  out_stays (shape a ∷ r) c p o =
      ap (λ (t : Bool). pixel K (steps r c) x y (inked K (t && inside (K.reach a) (pos x) (pos y)) a x y p)) o.clips
      ∙ out_stays r c p o

-- ---- a box set to the ground

module _ (pitch : ℕ) (box : IRect) (ground_pixel : ℕ) (px : List ℕ) where
  pub length_ground : length (ground_in pitch box ground_pixel px) ≡ length px
  unfolding ground_in
  length_ground = length_each _ 0 px

  pub word_ground : (i : ℕ) → i < length px
      → get_or (ground_in pitch box ground_pixel px) i 0 ≡ cond (inside box (pos (i % pitch)) (pos (i / pitch))) ground_pixel (get_or px i 0)
  unfolding ground_in
  word_ground i h = get_d_each _ 0 px i h ∙ rw zero-add

-- ---- the items, one after the other

module _ (K : Kind) (pitch : ℕ) where
  pub length_shape : (c : IRect) (a : K.Shape) (px : List ℕ) → length (shape_on K pitch c a px) ≡ length px
  unfolding shape_on
  length_shape c a px = Clips.length_shape pitch c (K.reach a) (K.ink a) px

  inked_is : (t : Bool) (a : K.Shape) (x y p : ℕ) → cond t (K.ink a x y p) p ≡ inked K t a x y p
  unfolding inked
  inked_is true a x y p = refl
  inked_is false a x y p = refl

  pub word_shape : (c : IRect) (a : K.Shape) (px : List ℕ) (i : ℕ) → i < length px
      → get_or (shape_on K pitch c a px) i 0
      ≡ inked K (meets K (record { under = c; drawn = a }) (i % pitch) (i / pitch)) a (i % pitch) (i / pitch) (get_or px i 0)
  unfolding shape_on meets Draw.meets
  word_shape c a px i h =
      Clips.shape_at pitch c (K.reach a) (K.ink a) px i h ∙ inked_is (meets K (record { under = c; drawn = a }) (i % pitch) (i / pitch)) a (i % pitch) (i / pitch) (get_or px i 0)

  pub length_items : (items : List (Item K.Shape)) (c : Clips) (px : List ℕ) → length (items_on K pitch items c px) ≡ length px
  unfolding items_on item_on
  length_items [] c px = refl
  length_items (push s b ∷ r) c px = length_items r _ px
  length_items (pop s ∷ r) c px = length_items r _ px
  length_items (shape a ∷ r) c px = length_items r _ (shape_on K pitch c.clip a px) ∙ length_shape c.clip a px

  pub word_items : (items : List (Item K.Shape)) (c : Clips) (px : List ℕ) (i : ℕ) → i < length px
      → get_or (items_on K pitch items c px) i 0 ≡ pixel K (steps items c) (i % pitch) (i / pitch) (get_or px i 0)
  unfolding items_on item_on steps with_step after pixel
  word_items [] c px i h = refl
  word_items (push s b ∷ r) c px i h = word_items r _ px i h
  word_items (pop s ∷ r) c px i h = word_items r _ px i h
  word_items (shape a ∷ r) c px i h =
      word_items r c (shape_on K pitch c.clip a px) i (rw length_shape h)
      ∙ ap (λ (p : ℕ). pixel K (steps r c) (i % pitch) (i / pitch) p) (word_shape c.clip a px i h)
