-- The parts of a row: where it is cut, and that rim, middle and rim make the row.
--     cut_edge       an edge row has no middle
--     cut_between    any other row has its middle between its ends
--     parts_drawn    the three parts drawn are the row drawn
--     same_paint     a paint that agrees in the row
--     plain_drawn    a part of the middle under a colour of full alpha
--     clear_drawn    the same under a colour of alpha 0
-- Assumes nothing.
use mathlib.Core.Path.{◌≡◌, sym, ◌∙◌}
use mathlib.Core.Bool.{Bool, true, false}
use mathlib.Core.List.{List}
use Prim.Native.Nat.{ℕ, ◌+◌, ◌<◌, ◌≤◌, min, max}
use native.Mathlib.Omega.{arith}
use lib.Ieee.{Float}
use Rattle.geom.specs.declared.Rect.{Rect}
use Rattle.geom.proofs.Bools.{same_test}
use Rattle.color.specs.declared.Color.{Color}
use Rattle.color.specs.Colours.{pix_of}
use Rattle.color.proofs.Overs.{over_none, over_full}
use Rattle.draw.specs.Areas.{within, area, DrewRow}
use Rattle.draw.proofs.Rows.{within_in, within_below, within_above, within_none, within_true, drawn_idle, row_same}
use Rattle.draw.proofs.Clips.{in_columns_lem}
use Rattle.draw.proofs.Loops.{row_three, drew_as, drew_none}
use Rattle.paints.specs.declared.Paint.{Paint}
use Rattle.paints.specs.declared.Paint.TheVariants.{Solid}
use Rattle.paints.specs.Paints.{paint_at, centre_of}
use Rattle.fill.specs.declared.Ends.{Ends}
use Rattle.fill.specs.Fill.{edge_row, corner_row, middle, rim_ink, middle_ink, round_ink}
use Rattle.fill.specs.Rows.{ends_of, clamped_of, Cuts}

-- a range brought between x0 and x1 has the same columns there
same_columns : (x0 x1 le rs x : ℕ) → x0 ≤ x → x < x1 → within le rs x ≡ within (max x0 (min le x1)) (max (max x0 (min le x1)) (min rs x1)) x
same_columns x0 x1 le rs x l h =
    same_test (within le rs x) (within (max x0 (min le x1)) (max (max x0 (min le x1)) (min rs x1)) x)
    (λ e. let w = within_true le rs x e in within_in _ _ x (omega arith) (omega arith))
    (λ e. let w = within_true (max x0 (min le x1)) (max (max x0 (min le x1)) (min rs x1)) x e in within_in le rs x (omega arith) (omega arith))

module _ (rect : Rect) (r : Float) (y x0 x1 : ℕ) where
  pub cut_edge : x0 ≤ x1 → edge_row rect (centre_of y) ≡ true → Cuts rect r y x0 x1 (record { le = x1; rs = x1 })
  unfolding middle
  cut_edge o e =
      record {
        left = o;
        order = omega arith;
        right = omega arith;
        is_middle = λ x l h. rw e (sym (within_none x1 x1 x (omega arith)));
      }

  pub cut_between : (corner : Bool) → x0 ≤ x1 → edge_row rect (centre_of y) ≡ false → corner_row rect r (centre_of y) ≡ corner
      → Cuts rect r y x0 x1 (clamped_of (ends_of corner rect r) x0 x1)
  unfolding middle ends_of
  cut_between corner o e k =
      record {
        left = omega arith;
        order = omega arith;
        right = omega arith;
        is_middle = λ x l h. rw (e, k) (in_columns_lem _ _ x ∙ same_columns x0 x1 _ _ x l h);
      }

  outside : (paint : Paint) (x p : ℕ) → middle rect r x y ≡ false → rim_ink rect r paint x y p ≡ round_ink rect r paint x y p
  unfolding round_ink
  outside paint x p e = rw e

  inside : (paint : Paint) (x p : ℕ) → middle rect r x y ≡ true → middle_ink paint x y p ≡ round_ink rect r paint x y p
  unfolding round_ink
  inside paint x p e = rw e

  pub parts_drawn : (paint : Paint) (c : Ends) (pitch : ℕ) (px px₁ px₂ px₃ : List ℕ) {n₁ n₂ n₃ : ℕ} → Cuts rect r y x0 x1 c
      → DrewRow pitch y x0 c.le (rim_ink rect r paint) px n₁ px₁
      → DrewRow pitch y c.le c.rs (middle_ink paint) px₁ n₂ px₂
      → DrewRow pitch y c.rs x1 (rim_ink rect r paint) px₂ n₃ px₃
      → DrewRow pitch y x0 x1 (round_ink rect r paint) px (n₁ + n₂ + n₃) px₃
  parts_drawn paint c pitch px px₁ px₂ px₃ k d₁ d₂ d₃ =
      row_three pitch (round_ink rect r paint) (rim_ink rect r paint) (middle_ink paint) (rim_ink rect r paint) y x0 c.le c.rs x1 px px₁ px₂ px₃
      k.left k.order k.right d₁ d₂ d₃
      (λ x p l h. outside paint x p (k.is_middle x l (omega arith) ∙ within_below _ _ x h))
      (λ x p l h. inside paint x p (k.is_middle x (omega arith) (omega arith) ∙ within_in _ _ x l h))
      (λ x p l h. outside paint x p (k.is_middle x (omega arith) h ∙ within_above _ _ x l))

-- a paint that agrees with another in the row draws the same
pub same_paint : (rect : Rect) (r : Float) (y : ℕ) (here paint : Paint) → ((x : Float) → paint_at here x (centre_of y) ≡ paint_at paint x (centre_of y))
    → (x p : ℕ) → round_ink rect r here x y p ≡ round_ink rect r paint x y p
unfolding round_ink rim_ink middle_ink
same_paint rect r y here paint e x p = rw (e (centre_of x))

-- ---- the middle under one colour

module _ (c : Color) (pitch y x0 x1 : ℕ) (px : List ℕ) where
  pub plain_drawn : (qx : List ℕ) {n : ℕ} → 255 ≤ c.a → DrewRow pitch y x0 x1 (λ _ _ _. pix_of c) px n qx
      → DrewRow pitch y x0 x1 (middle_ink (Solid c)) px n qx
  unfolding middle_ink paint_at
  plain_drawn qx e d = drew_as d (row_same pitch _ (middle_ink (Solid c)) px x0 x1 y (λ x p l h. sym (over_full p c c.a e)))

  pub clear_drawn : c.a ≡ 0 → DrewRow pitch y x0 x1 (middle_ink (Solid c)) px 0 px
  unfolding middle_ink paint_at
  clear_drawn e =
      drew_none
      (drawn_idle pitch (middle_ink (Solid c)) px (area x0 y x1 (y + 1))
      ∙ row_same pitch _ (middle_ink (Solid c)) px x0 x1 y (λ x p l h. rw e (sym (over_none p c))))
