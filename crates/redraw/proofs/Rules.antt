-- The outcome of a call, a law for each way through its conditions, in their order: what a proof of `paint` or `patch` cites at each
-- return. `does_refused` and `does_drawn` make the contract of an outcome. Assumes nothing.
use mathlib.Core.Bool.{true, false, cond}
use mathlib.Core.List.{List}
use mathlib.Core.Path.{◌≡◌, refl, ap, ◌∙◌}
use Prim.Native.Nat.{ℕ, ◌/◌, ◌%◌}
use lib.IntN.{pos}
use lib.Seq.{ext_get_or}
use borrow.Author.Tests.{ne_eqb}
use Rattle.redraw.specs.declared.Reply.{Reply}
use Rattle.redraw.specs.Counts.{steps_of, grounds_of}
use Rattle.geom.specs.declared.IRect.{IRect}
use Rattle.geom.specs.Box.{no_box, hull}
use Rattle.redraw.specs.Sheet.{Format, Sheet, Reading, read, refused, Pair, Change, other, shapes, change_in, reaches, Outcome, refuses, draws, few, too_many, canvas, same_header, draws_unless, lent_number, lent, paint_of, patch_by, patch_of, painting, patching, answer, pixels, cleared}
use Rattle.redraw.specs.Drawing.{Kind}
use Rattle.redraw.specs.Calls.{refused_by, Does}
use Rattle.geom.proofs.Boxes.{in_no_box}
use Rattle.redraw.proofs.Drawn.{length_drawn, outside_kept}
use Rattle.redraw.proofs.Lists.{pixels_drawn}

-- ---- what is lent, by its number

module _ (F : Format) (s : Sheet F.kind.Shape) (pitch pl sl : ℕ) (box : IRect) where
  pub lent_refused : (n : ℕ) → lent_number F s pitch pl sl ≡ n → (n ≡ 0 → ⊥) → lent F s pitch pl sl box ≡ refuses n 0
  unfolding lent draws_unless
  lent_refused n e k = rw (e, ne_eqb n 0 k)

  pub lent_draws : lent_number F s pitch pl sl ≡ 0 → lent F s pitch pl sl box ≡ draws s box
  unfolding lent draws_unless
  lent_draws e = rw e

-- ---- painting and patching

module _ (F : Format) (sheet : List ℕ) (pitch pl sl : ℕ) where
  pub paint_refused : (n k : ℕ) → F.reading sheet ≡ refused n k → painting F sheet pitch pl sl ≡ refuses n k
  unfolding painting paint_of
  paint_refused n k e = ap (λ (r : Reading F.kind.Shape). paint_of F r pitch pl sl) e

  module _ (s : Sheet F.kind.Shape) (e : F.reading sheet ≡ read s) where
    paint_read : painting F sheet pitch pl sl ≡ lent F s pitch pl sl (canvas s)
    unfolding painting paint_of
    paint_read = ap (λ (r : Reading F.kind.Shape). paint_of F r pitch pl sl) e

    pub paint_unlent : (n : ℕ) → lent_number F s pitch pl sl ≡ n → (n ≡ 0 → ⊥) → painting F sheet pitch pl sl ≡ refuses n 0
    paint_unlent n z k = paint_read ∙ lent_refused F s pitch pl sl (canvas s) n z k

    pub paint_draws : lent_number F s pitch pl sl ≡ 0 → painting F sheet pitch pl sl ≡ draws s (canvas s)
    paint_draws z = paint_read ∙ lent_draws F s pitch pl sl (canvas s) z

module _ (F : Format) (old new : List ℕ) (pitch pl sl : ℕ) where
  pub patch_old_refused : (n k : ℕ) → F.reading old ≡ refused n k → patching F old new pitch pl sl ≡ refuses n k
  unfolding patching patch_of
  patch_old_refused n k e = ap (λ (r : Reading F.kind.Shape). patch_of F r (F.reading new) pitch pl sl) e

  module _ (a : Sheet F.kind.Shape) (p : F.reading old ≡ read a) where
    after_old : patching F old new pitch pl sl ≡ patch_of F (read a) (F.reading new) pitch pl sl
    unfolding patching
    after_old = ap (λ (r : Reading F.kind.Shape). patch_of F r (F.reading new) pitch pl sl) p

    pub patch_new_refused : (n k : ℕ) → F.reading new ≡ refused n k → patching F old new pitch pl sl ≡ refuses n k
    unfolding patch_of
    patch_new_refused n k e = after_old ∙ ap (λ (r : Reading F.kind.Shape). patch_of F (read a) r pitch pl sl) e

    module _ (b : Sheet F.kind.Shape) (q : F.reading new ≡ read b) where
      after_new : patching F old new pitch pl sl
          ≡ cond (same_header a b) (patch_by F (change_in F (canvas b) a b) b pitch pl sl) (refuses 10 0)
      unfolding patch_of
      after_new = after_old ∙ ap (λ (r : Reading F.kind.Shape). patch_of F (read a) r pitch pl sl) q

      pub patch_header : same_header a b ≡ false → patching F old new pitch pl sl ≡ refuses 10 0
      patch_header h = after_new ∙ rw h

      module _ (h : same_header a b ≡ true) where
        after_header : (c : Change F.kind.Shape) → change_in F (canvas b) a b ≡ c
            → patching F old new pitch pl sl ≡ patch_by F c b pitch pl sl
        after_header c d = after_new ∙ rw (h, d)

        pub patch_other : change_in F (canvas b) a b ≡ other → patching F old new pitch pl sl ≡ refuses 10 0
        unfolding patch_by
        patch_other d = after_header other d

        module _ (l : List (Pair F.kind.Shape)) (d : change_in F (canvas b) a b ≡ shapes l) where
          pub patch_many : few l ≡ false → patching F old new pitch pl sl ≡ too_many
          unfolding patch_by
          patch_many m = after_header (shapes l) d ∙ rw m

          module _ (m : few l ≡ true) where
            after_few : patching F old new pitch pl sl ≡ lent F b pitch pl sl (hull (canvas b) (reaches F.kind.reach l))
            unfolding patch_by
            after_few = after_header (shapes l) d ∙ rw m

            pub patch_unlent : (n : ℕ) → lent_number F b pitch pl sl ≡ n → (n ≡ 0 → ⊥) → patching F old new pitch pl sl ≡ refuses n 0
            patch_unlent n z k = after_few ∙ lent_refused F b pitch pl sl _ n z k

            pub patch_draws : lent_number F b pitch pl sl ≡ 0 → patching F old new pitch pl sl ≡ draws b (hull (canvas b) (reaches F.kind.reach l))
            patch_draws z = after_few ∙ lent_draws F b pitch pl sl _ z

-- ---- the contract of an outcome that is known

module _ {Word : Type 0} (zero_word : Word) (F : Format) (pitch : ℕ) (px : List ℕ) (scratch : List Word) (o : Outcome F.kind.Shape) where
  pub does_refused : (n k : ℕ) (a : Reply) → o ≡ refuses n k → a ≡ refused_by n k → Does zero_word F pitch o px scratch a px scratch
  unfolding answer pixels cleared steps_of grounds_of
  does_refused n k a e r = rw (e, r) (record { answers = refl; steps = refl; grounds = refl; paints = refl; clears = refl })

  pub does_drawn : (q : Outcome F.kind.Shape) (a : Reply) (px' : List ℕ) (scratch' : List Word) → o ≡ q
      → a.answer ≡ answer q → a.steps ≡ steps_of F.kind pitch q px → a.grounded ≡ grounds_of F.kind pitch q px
      → px' ≡ pixels F.kind pitch q px → scratch' ≡ cleared zero_word F q scratch
      → Does zero_word F pitch o px scratch a px' scratch'
  does_drawn q a px' scratch' e p s g r c = record { answers = rw e p; steps = rw e s; grounds = rw e g; paints = rw e r; clears = rw e c }

-- ---- what is drawn in no box

-- a patch with no box leaves px
pub drawn_none : (K : Kind) (pitch : ℕ) (s : Sheet K.Shape) (px : List ℕ) → pixels K pitch (draws s no_box) px ≡ px
drawn_none K pitch s px =
    pixels_drawn K pitch s no_box px
    ∙ ext_get_or 0 _ _ (length_drawn K pitch no_box s.ground_pixel s.items px)
    (λ i h. outside_kept K pitch no_box s.ground_pixel s.items px i (rw length_drawn at h) (in_no_box (pos (i % pitch)) (pos (i / pitch))))
