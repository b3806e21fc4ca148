-- Parts drawn one after the other are one shape.
--     reach_smallest   their reach is the smallest box around theirs
--     all_drawn        parts drawn under a clip, as the drawing of their reach and ink
--     one_drawn        one part alone, and its steps (one_alters)
--     alters_none      parts that take no step that alters leave every pixel
--     alters_most      no more steps than parts times pixels
-- Assumes nothing.
use mathlib.Core.Path.{◌≡◌, refl, sym, ap, ◌∙◌}
use mathlib.Core.Bool.{Bool, true, false, cond, ◌&&◌}
use mathlib.Core.List.{List, [], ◌∷◌}
use Prim.Native.Nat.{ℕ, ◌*◌, ◌/◌, ◌%◌, ◌<◌, ◌≤◌}
use native.Mathlib.Nat.{add-zero}
use native.Mathlib.Omega.{arith}
use lib.IntN.{pos}
use lib.ListN.{length, get_or}
use lib.Seq.{ext_get_or}
use Rattle.geom.specs.declared.IRect.{IRect}
use Rattle.geom.specs.Box.{inside, join_all, Holds, SmallestAll}
use Rattle.geom.proofs.Bools.{same_test}
use Rattle.geom.proofs.Boxes.{join_left, join_right, join_smallest}
use Rattle.draw.specs.Draw.{meets, drawn, differ}
use Rattle.draw.specs.Parts.{Part, reach_all, ink_all, drawn_all, alters_all}
use Rattle.draw.proofs.Counts.{differ_none, differ_most}
use Rattle.draw.proofs.Clips.{length_shape, shape_at}

pub reach_smallest : (l : List Part) → SmallestAll (λ (a : Part). a.reach) l (reach_all l)
reach_smallest l = join_smallest (λ (a : Part). a.reach) l

-- ---- one pixel

module _ (x y : ℕ) where
  abbrev in_box : IRect → Bool
  in_box b = inside b (pos x) (pos y)

  outside : (big small : IRect) → Holds big small → in_box big ≡ false → in_box small ≡ false
  outside big small h o = same_test (in_box small) false (λ e. sym o ∙ h.holds (pos x) (pos y) e) (λ z. cc)

  -- outside the reach of the parts the ink leaves the pixel
  ink_outside : (l : List Part) (p : ℕ) → in_box (reach_all l) ≡ false → ink_all l x y p ≡ p
  unfolding join_all ink_all
  ink_outside [] p o = refl
  ink_outside (a ∷ l) p o =
      let left : cond (in_box a.reach) (a.ink x y p) p ≡ p = rw (outside _ a.reach (join_left a.reach (reach_all l)) o) in
      ap (ink_all l x y) left ∙ ink_outside l p (outside _ (reach_all l) (join_right a.reach (reach_all l)) o)

  ink_reached : (l : List Part) (p : ℕ) → cond (in_box (reach_all l)) (ink_all l x y p) p ≡ ink_all l x y p
  ink_reached l p = go (in_box (reach_all l)) refl
    where
      go : (t : Bool) → in_box (reach_all l) ≡ t → cond t (ink_all l x y p) p ≡ ink_all l x y p
      go true e = refl
      go false e = sym (ink_outside l p e)

  -- the parts under a clip that holds the pixel, or does not
  module _ (clip : IRect) where
    unfoldable under : List Part → ℕ → ℕ
    under [] p = p
    under (a ∷ l) p = under l (cond (meets clip a.reach x y) (a.ink x y p) p)

    under_in : in_box clip ≡ true → (l : List Part) (p : ℕ) → under l p ≡ ink_all l x y p
    unfolding under ink_all meets
    under_in e [] p = refl
    under_in e (a ∷ l) p = rw e (under_in e l _)

    under_out : in_box clip ≡ false → (l : List Part) (p : ℕ) → under l p ≡ p
    unfolding under meets
    under_out e [] p = refl
    under_out e (a ∷ l) p = rw e (under_out e l p)

    under_all : (l : List Part) (p : ℕ) → under l p ≡ cond (meets clip (reach_all l) x y) (ink_all l x y p) p
    unfolding meets
    under_all l p = go (in_box clip) refl
      where
        go : (t : Bool) → in_box clip ≡ t → under l p ≡ cond (t && in_box (reach_all l)) (ink_all l x y p) p
        go true e = under_in e l p ∙ sym (ink_reached l p)
        go false e = under_out e l p

-- ---- all pixels

module _ (pitch : ℕ) (clip : IRect) where
  pub length_all : (l : List Part) (px : List ℕ) → length (drawn_all pitch clip l px) ≡ length px
  unfolding drawn_all
  length_all [] px = refl
  length_all (a ∷ l) px = length_all l (drawn pitch clip a.reach a.ink px) ∙ length_shape pitch clip a.reach a.ink px

  all_at_lem : (l : List Part) (px : List ℕ) (k : ℕ) → k < length px → get_or (drawn_all pitch clip l px) k 0 ≡ under (k % pitch) (k / pitch) clip l (get_or px k 0)
  unfolding drawn_all under
  all_at_lem [] px k h = refl
  all_at_lem (a ∷ l) px k h =
      all_at_lem l (drawn pitch clip a.reach a.ink px) k (omega (arith, length_shape pitch clip a.reach a.ink px))
      ∙ ap (under (k % pitch) (k / pitch) clip l) (shape_at pitch clip a.reach a.ink px k h)

  pub all_drawn : (l : List Part) (px : List ℕ) → drawn_all pitch clip l px ≡ drawn pitch clip (reach_all l) (ink_all l) px
  all_drawn l px =
      ext_get_or 0 _ _ (length_all l px ∙ sym (length_shape pitch clip (reach_all l) (ink_all l) px))
      (λ k h. let h' : k < length px = omega (arith, length_all l px) in
      all_at_lem l px k h' ∙ under_all (k % pitch) (k / pitch) clip l (get_or px k 0) ∙ sym (shape_at pitch clip (reach_all l) (ink_all l) px k h'))

  -- ---- steps

  pub one_drawn : (a : Part) (px : List ℕ) → drawn_all pitch clip (a ∷ []) px ≡ drawn pitch clip a.reach a.ink px
  unfolding drawn_all
  one_drawn a px = refl

  pub one_alters : (a : Part) (px : List ℕ) → alters_all pitch clip (a ∷ []) px ≡ differ px (drawn pitch clip a.reach a.ink px)
  unfolding alters_all
  one_alters a px = add-zero _

  pub alters_none : (l : List Part) (px : List ℕ) → alters_all pitch clip l px ≡ 0 → drawn_all pitch clip l px ≡ px
  unfolding alters_all drawn_all
  alters_none [] px e = refl
  alters_none (a ∷ l) px e =
      let here : drawn pitch clip a.reach a.ink px ≡ px = differ_none px _ (length_shape pitch clip a.reach a.ink px) (omega arith) in
      alters_none l (drawn pitch clip a.reach a.ink px) (omega arith) ∙ here

  pub alters_most : (l : List Part) (px : List ℕ) → alters_all pitch clip l px ≤ length l * length px
  unfolding alters_all
  alters_most [] px = omega arith
  alters_most (a ∷ l) px =
      let next = drawn pitch clip a.reach a.ink px in
      let rest : alters_all pitch clip l next ≤ length l * length px = rw (length_shape pitch clip a.reach a.ink px) at (alters_most l next) in
      let here = differ_most px next in
      omega (arith, rest, here)
