-- A row of a shadow in three parts: one alpha in the middle, by distance beside it. Assumes nothing.
use mathlib.Core.Path.{◌≡◌, ◌∙◌}
use mathlib.Core.List.{List}
use mathlib.Core.Bool.{Bool, true, false}
use Prim.Native.Nat.{ℕ, ◌+◌, ◌≤◌, min, max}
use lib.Ieee.{Float}
use lib.IntN.{ℤ}
use Rattle.mathf.specs.F32.{◌-ᶠ◌, ◌≤ᶠ◌, f0}
use Rattle.geom.specs.Int.{up}
use Rattle.draw.specs.Draw.{in_columns}
use Rattle.draw.specs.Areas.{DrewRow}
use Rattle.draw.proofs.Loops.{row_clamped}
use Rattle.draw.proofs.Clips.{in_columns_lem}
use Rattle.paints.specs.Paints.{centre_of}
use Rattle.shadow.specs.declared.Shade.{Shade}
use Rattle.shadow.specs.Shadow.{alpha_of, row_dy, row_qy, straight_from, straight_upto, straight_middle, corner_from, corner_upto, straight_alpha, corner_alpha, shade_ink}
use Rattle.shadow.specs.Spans.{flat_ink, straight_ink, corner_ink, straight_row_ink, corner_row_ink}

-- a row whose ink is m in the columns from lo up to hi, and g beside them
module _ (f g m : ℕ → ℕ → ℕ → ℕ) (lo hi : ℤ) (y : ℕ)
    (out : (x p : ℕ) → in_columns lo hi x ≡ false → g x y p ≡ f x y p)
    (in' : (x p : ℕ) → in_columns lo hi x ≡ true → m x y p ≡ f x y p) where
  pub parts : (w x0 x1 le rs a b : ℕ) (px px₁ px₂ px₃ : List ℕ) {n₁ n₂ n₃ : ℕ} → x0 ≤ x1 → le ≡ up lo → rs ≡ up hi
      → a ≡ max x0 (min le x1) → b ≡ max a (min rs x1)
      → DrewRow w y x0 a g px n₁ px₁ → DrewRow w y a b m px₁ n₂ px₂ → DrewRow w y b x1 g px₂ n₃ px₃
      → DrewRow w y x0 x1 f px (n₁ + n₂ + n₃) px₃
  parts w x0 x1 le rs a b px px₁ px₂ px₃ o el er ea eb d₁ d₂ d₃ =
      row_clamped w f g m y x0 x1 le rs a b px px₁ px₂ px₃ o ea eb d₁ d₂ d₃
      (λ x p h. out x p (in_columns_lem lo hi x ∙ rw (← el, ← er) h))
      (λ x p h. in' x p (in_columns_lem lo hi x ∙ rw (← el, ← er) h))

module _ (h : Shade) (skip : Bool) (sdy : Float) (x y p : ℕ) where
  pub straight_out : in_columns (straight_from h.s h.blur) (straight_upto h.s h.blur) x ≡ false
      → straight_ink h sdy x y p ≡ straight_row_ink h skip sdy x y p
  unfolding straight_ink straight_row_ink straight_alpha
  straight_out e = rw e

  pub straight_in : in_columns (straight_from h.s h.blur) (straight_upto h.s h.blur) x ≡ true
      → flat_ink h.c (straight_middle h.c.a h.blur skip sdy) x y p ≡ straight_row_ink h skip sdy x y p
  unfolding flat_ink straight_row_ink straight_alpha
  straight_in e = rw e

module _ (h : Shade) (qy : Float) (x y p : ℕ) where
  pub corner_out : in_columns (corner_from h.s) (corner_upto h.s) x ≡ false → corner_ink h qy x y p ≡ corner_row_ink h qy x y p
  unfolding corner_ink corner_row_ink corner_alpha
  corner_out e = rw e

  pub corner_in : in_columns (corner_from h.s) (corner_upto h.s) x ≡ true
      → flat_ink h.c (alpha_of h.c.a h.blur (qy -ᶠ h.s.r)) x y p ≡ corner_row_ink h qy x y p
  unfolding flat_ink corner_row_ink corner_alpha
  corner_in e = rw e

-- the row is straight, or it is not
module _ (h : Shade) (skip : Bool) (y : ℕ) where
  pub straight_row : (row_qy h.s (centre_of y) ≤ᶠ f0) ≡ true → (x p : ℕ)
      → straight_row_ink h skip (row_dy h.s (centre_of y) -ᶠ h.s.hh) x y p ≡ shade_ink h.s h.blur h.c skip x y p
  unfolding straight_row_ink shade_ink
  straight_row e x p = rw e

  pub corner_row_lem : (row_qy h.s (centre_of y) ≤ᶠ f0) ≡ false → (x p : ℕ)
      → corner_row_ink h (row_qy h.s (centre_of y)) x y p ≡ shade_ink h.s h.blur h.c skip x y p
  unfolding corner_row_ink shade_ink
  corner_row_lem e x p = rw e
