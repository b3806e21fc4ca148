-- A canvas drawn in rows of `pitch` words, and the same canvas in rows of w: the same words are in both, and each step alters as many. Assumes nothing.
use mathlib.Core.Bool.{false, cond}
use mathlib.Core.List.{List, [], ◌∷◌}
use mathlib.Core.Path.{◌≡◌, refl, sym, ap, ap₂, ◌∙◌}
use Prim.Native.Nat.{ℕ, suc, ◌+◌, ◌*◌, ◌≤◌, ◌<◌}
use native.Mathlib.Nat.{suc_inj, suc-ne-zero}
use native.Mathlib.Omega.{arith}
use lib.Arith.{digits_lt, digits_div, digits_mod}
use lib.Dec.{eqb}
use lib.IntN.{pos}
use lib.ListN.{length, get_or}
use borrow.Author.Tests.{eq-eqb}
use Rattle.geom.specs.declared.IRect.{IRect}
use Rattle.geom.specs.Box.{inside}
use Rattle.draw.specs.Draw.{meets, drawn, differ}
use Rattle.draw.specs.Parts.{Part, alters_all}
use Rattle.draw.proofs.Clips as Clips
use Rattle.redraw.specs.Drawing.{Item, push, pop, shape, Clips, after, Kind, shape_on, item_on}
use Rattle.redraw.specs.Counts.{item_alters, items_alter}
use Rattle.redraw.specs.Sums.{sum_to}
use Rattle.redraw.proofs.Sums.{sum_same, sum_first, sum_rows}
use Rattle.redraw.proofs.Items.{Out, out_after}

-- the places at which two lists differ, summed
differ_sum : (px qx : List ℕ) → length qx ≡ length px → differ px qx ≡ sum_to (λ i. cond (eqb (get_or qx i 0) (get_or px i 0)) 0 1) (length px)
unfolding differ sum_to
differ_sum [] qx e = refl
differ_sum (p ∷ px) [] e = absurd (suc-ne-zero (length px) (sym e))
differ_sum (p ∷ px) (q ∷ qx) e =
    ap (λ (n : ℕ). cond (eqb q p) 0 1 + n) (differ_sum px qx (suc_inj e) ∙ rest) ∙ sym (sum_first (λ i. cond (eqb (get_or (q ∷ qx) i 0) (get_or (p ∷ px) i 0)) 0 1) (length px))
  where
    rest : sum_to (λ i. cond (eqb (get_or qx i 0) (get_or px i 0)) 0 1) (length px) ≡ sum_to (λ i. cond (eqb (get_or (q ∷ qx) (1 + i) 0) (get_or (p ∷ px) (1 + i) 0)) 0 1) (length px)
    rest =
        sum_same (λ i. cond (eqb (get_or qx i 0) (get_or px i 0)) 0 1) (λ i. cond (eqb (get_or (q ∷ qx) (1 + i) 0) (get_or (p ∷ px) (1 + i) 0)) 0 1) (length px)
        (λ i k. let e : 1 + i ≡ suc i = omega arith in rw e)

module _ (pitch w h : ℕ) where
  -- px is h rows of `pitch` words, qx h rows of w, and the first w words of each row are the same
  pub record SameRows (px qx : List ℕ) : Type 0 where
    pub long : length px ≡ h * pitch
    pub short : length qx ≡ h * w
    pub words : (x y : ℕ) → x < w → y < h → get_or px (y * pitch + x) 0 ≡ get_or qx (y * w + x) 0

module _ {pitch w h : ℕ} (room : w ≤ pitch) where
  -- ---- a part

  module _ (c reach : IRect) (ink : ℕ → ℕ → ℕ → ℕ) where
    -- the word in column x and row y after it
    word_at : (p x y : ℕ) (px : List ℕ) → length px ≡ h * p → x < p → y < h
        → get_or (drawn p c reach ink px) (y * p + x) 0 ≡ cond (meets c reach x y) (ink x y (get_or px (y * p + x) 0)) (get_or px (y * p + x) 0)
    word_at p x y px e k l =
        Clips.shape_at p c reach ink px (y * p + x) (rw e (digits_lt l k))
        ∙ ap₂ (λ (a b : ℕ). cond (meets c reach a b) (ink a b (get_or px (y * p + x) 0)) (get_or px (y * p + x) 0)) (digits_mod y k) (digits_div y k)

    same_drawn : (px qx : List ℕ) → SameRows pitch w h px qx → SameRows pitch w h (drawn pitch c reach ink px) (drawn w c reach ink qx)
    same_drawn px qx s =
        record {
          long = Clips.length_shape pitch c reach ink px ∙ s.long;
          short = Clips.length_shape w c reach ink qx ∙ s.short;
          words = λ x y k l. word_at pitch x y px s.long (omega arith) l
              ∙ ap (λ (p : ℕ). cond (meets c reach x y) (ink x y p) p) (s.words x y k l) ∙ sym (word_at w x y qx s.short k l);
        }

    -- it alters as many words of the one as of the other, under a clip that has no pixel past the first w columns
    same_differ : (px qx : List ℕ) → SameRows pitch w h px qx → ((x y : ℕ) → w ≤ x → inside c (pos x) (pos y) ≡ false)
        → differ px (drawn pitch c reach ink px) ≡ differ qx (drawn w c reach ink qx)
    unfolding meets
    same_differ px qx s u =
        differ_sum px (drawn pitch c reach ink px) (Clips.length_shape pitch c reach ink px) ∙ ap (sum_to f) s.long
        ∙ sum_rows f g w pitch h room (λ x y k l. ap₂ (λ (a b : ℕ). cond (eqb a b) 0 1) ((same_drawn px qx s).words x y k l) (s.words x y k l))
        (λ x y k m l. rw (word_at pitch x y px s.long m l, u x y k, eq-eqb (get_or px (y * pitch + x) 0) _ refl))
        ∙ sym (ap (sum_to g) s.short) ∙ sym (differ_sum qx (drawn w c reach ink qx) (Clips.length_shape w c reach ink qx))
      where
        f : ℕ → ℕ
        f i = cond (eqb (get_or (drawn pitch c reach ink px) i 0) (get_or px i 0)) 0 1

        g : ℕ → ℕ
        g i = cond (eqb (get_or (drawn w c reach ink qx) i 0) (get_or qx i 0)) 0 1

  -- ---- the parts of a shape, the items

  same_parts : (l : List Part) (c : IRect) (px qx : List ℕ) → SameRows pitch w h px qx → ((x y : ℕ) → w ≤ x → inside c (pos x) (pos y) ≡ false)
      → alters_all pitch c l px ≡ alters_all w c l qx
  unfolding alters_all
  same_parts [] c px qx s u = refl
  same_parts (a ∷ l) c px qx s u =
      ap₂ (λ (m n : ℕ). m + n) (same_differ c a.reach a.ink px qx s u) (same_parts l c _ _ (same_drawn c a.reach a.ink px qx s) u)

  pub same_steps : (K : Kind) (l : List (Item K.Shape)) (c : Clips) (px qx : List ℕ) → SameRows pitch w h px qx → ((x y : ℕ) → w ≤ x → Out K x y c)
      → items_alter K pitch l c px ≡ items_alter K w l c qx
  unfolding items_alter item_alters item_on shape_on after
  same_steps K [] c px qx s o = refl
  same_steps K (push a b ∷ r) c px qx s o =
      ap (λ (n : ℕ). 0 + n) (same_steps K r _ px qx s (λ x y k. out_after K x y (push a b) c (o x y k)))
  same_steps K (pop a ∷ r) c px qx s o =
      ap (λ (n : ℕ). 0 + n) (same_steps K r _ px qx s (λ x y k. out_after K x y (pop a) c (o x y k)))
  same_steps K (shape a ∷ r) c px qx s o =
      ap₂ (λ (m n : ℕ). m + n) (same_parts (K.parts a) c.clip px qx s (λ x y k. (o x y k).clips))
      (same_steps K r c _ _ (same_drawn c.clip (K.reach a) (K.ink a) px qx s) o)
