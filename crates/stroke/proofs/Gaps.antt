-- A row of an outline: whole, or its two sides with a gap between. Assumes nothing.
use mathlib.Core.Path.{◌≡◌, ◌∙◌}
use mathlib.Core.List.{List}
use mathlib.Core.Bool.{true, false}
use Prim.Native.Nat.{ℕ, ◌+◌, ◌≤◌, min, max}
use native.Mathlib.Nat.{add-zero}
use lib.Ieee.{Float}
use Rattle.mathf.specs.F32.{◌+ᶠ◌, f1}
use Rattle.geom.specs.Int.{up}
use Rattle.color.specs.declared.Color.{Color}
use Rattle.draw.specs.Areas.{area, within, DrewRow}
use Rattle.draw.proofs.Rows.{row_same, drawn_idle}
use Rattle.draw.proofs.Loops.{row_clamped, drew_as, drew_none}
use Rattle.draw.proofs.Clips.{in_columns_lem}
use Rattle.paints.specs.declared.Rounded.{Rounded}
use Rattle.paints.specs.Paints.{centre_of}
use Rattle.stroke.specs.Stroke.{full_row, gap_from, gap_upto, in_gap, band_ink, outline_ink}

module _ (s : Rounded) (width : Float) (c : Color) (y : ℕ) where
  side : (x p : ℕ) → in_gap s width (centre_of y) x ≡ false → band_ink s width c x y p ≡ outline_ink s width c x y p
  unfolding outline_ink
  side x p h = rw h

  gap : (x p : ℕ) → in_gap s width (centre_of y) x ≡ true → p ≡ outline_ink s width c x y p
  unfolding outline_ink
  gap x p h = rw h

  -- a full row has no gap
  pub full_drawn : (w x0 x1 : ℕ) (px qx : List ℕ) {n : ℕ} → full_row s (width +ᶠ f1) (centre_of y) ≡ true
      → DrewRow w y x0 x1 (band_ink s width c) px n qx → DrewRow w y x0 x1 (outline_ink s width c) px n qx
  unfolding in_gap
  full_drawn w x0 x1 px qx t d = drew_as d (row_same w (band_ink s width c) (outline_ink s width c) px x0 x1 y (λ x p l h. side x p (rw t)))

  -- the gap of any other row, by natural numbers
  gap_is : full_row s (width +ᶠ f1) (centre_of y) ≡ false → (x : ℕ)
      → in_gap s width (centre_of y) x ≡ within (up (gap_from s width (centre_of y))) (up (gap_upto s width (centre_of y))) x
  unfolding in_gap
  gap_is t x = rw t (in_columns_lem (gap_from s width (centre_of y)) (gap_upto s width (centre_of y)) x)

  pub sides_drawn : (w x0 x1 le rs a b : ℕ) (px px₁ px₂ : List ℕ) {n₁ n₂ : ℕ} → full_row s (width +ᶠ f1) (centre_of y) ≡ false → x0 ≤ x1
      → le ≡ up (gap_from s width (centre_of y)) → rs ≡ up (gap_upto s width (centre_of y))
      → a ≡ max x0 (min le x1) → b ≡ max a (min rs x1)
      → DrewRow w y x0 a (band_ink s width c) px n₁ px₁
      → DrewRow w y b x1 (band_ink s width c) px₁ n₂ px₂
      → DrewRow w y x0 x1 (outline_ink s width c) px (n₁ + n₂) px₂
  sides_drawn w x0 x1 le rs a b px px₁ px₂ t o el er ea eb d₁ d₂ =
      rw add-zero at
      (row_clamped w (outline_ink s width c) (band_ink s width c) (λ x r p. p) y x0 x1 le rs a b px px₁ px₁ px₂ o ea eb
      d₁ (drew_none (drawn_idle w (outline_ink s width c) px₁ (area a y b (y + 1)))) d₂
      (λ x p h. side x p (gap_is t x ∙ rw (← el, ← er) h))
      (λ x p h. gap x p (gap_is t x ∙ rw (← el, ← er) h)))
