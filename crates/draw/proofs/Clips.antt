-- Drawing under a clip is drawing in an area.
--     in_area_lem       a box holds the pixels that its area holds
--     in_columns_lem    signed ends of a range of columns, as natural ones
--     in_clip       a pixel is in what the clip lets through where it is in the reach and in the clip
--     drawn_clip    a shape drawn under a clip is drawn in what the clip lets through
--     shape_at      one pixel of what a shape leaves
--     clip_fits     what a clip that is empty or inside the canvas lets through lies within px
-- Assumes nothing.
use mathlib.Core.Path.{◌≡◌, refl, sym, ◌∙◌}
use mathlib.Core.Bool.{Bool, true, false, cond, ◌&&◌}
use mathlib.Core.List.{List}
use mathlib.Core.Logic.{◌⊎◌, ⊎_elim}
use Prim.Native.Nat.{ℕ, ◌*◌, ◌/◌, ◌%◌, ◌≤◌, ◌<◌}
use lib.ListN.{length, get_or}
use native.Mathlib.Nat.{mul-le-mul_right, zero-mul}
use native.Mathlib.Omega.{arith}
use lib.IntN.{ℤ, pos}
use Rattle.geom.specs.declared.IRect.{IRect}
use Rattle.geom.specs.Box.{box_of, inside, meet, empty}
use Rattle.geom.proofs.Bools.{split}
use Rattle.geom.specs.Int.{up}
use Rattle.geom.proofs.Int.{order_z, le_up, lt_up}
use Rattle.geom.proofs.Boxes.{in_pixel, in_meet, in_empty, Within, meet_right, cut_in, holds_full, within_nat}
use Rattle.draw.specs.Draw.{meets, drawn, in_columns}
use Rattle.draw.specs.Areas.{within, area, in_area, area_of, drawn_in, clip_to, AreaFits}
use Rattle.draw.proofs.Onto.{length_onto, get_d_onto}
use Rattle.draw.proofs.Rows.{within_none}

pub in_area_lem : (b : IRect) (x y : ℕ) → inside b (pos x) (pos y) ≡ in_area (area_of b) x y
unfolding within
in_area_lem b x y = in_pixel b x y

-- signed ends of a range of columns are as good as natural ones
pub in_columns_lem : (a b : ℤ) (x : ℕ) → in_columns a b x ≡ within (up a) (up b) x
unfolding in_columns within
in_columns_lem a b x = rw (le_up a x, lt_up x b)

-- ---- what a clip lets through

swap : (a b : Bool) → (a && b) ≡ (b && a)
swap true true = refl
swap true false = refl
swap false true = refl
swap false false = refl

none : (x y : ℕ) → in_area (area 0 0 0 0) x y ≡ false
none x y = rw (within_none 0 0 x (omega arith))

pub in_clip : (reach clip : IRect) (x y : ℕ) → meets clip reach x y ≡ in_area (clip_to reach clip) x y
unfolding meets clip_to
in_clip reach clip x y =
    swap (inside clip (pos x) (pos y)) (inside reach (pos x) (pos y)) ∙ sym (in_meet reach clip (pos x) (pos y)) ∙ go (empty m) refl
  where
    m : IRect
    m = meet reach clip

    go : (t : Bool) → empty m ≡ t → inside m (pos x) (pos y) ≡ in_area (cond t (area 0 0 0 0) (area_of m)) x y
    go true e = in_empty m (pos x) (pos y) e ∙ sym (none x y)
    go false e = in_area_lem m x y

pub drawn_clip : (pitch : ℕ) (clip reach : IRect) (ink : ℕ → ℕ → ℕ → ℕ) (px : List ℕ) → drawn pitch clip reach ink px ≡ drawn_in pitch (clip_to reach clip) ink px
unfolding drawn drawn_in
drawn_clip pitch clip reach ink px = simp (in_clip reach clip)

-- ---- within px

nothing_fits : (pitch n : ℕ) → AreaFits pitch (area 0 0 0 0) n
nothing_fits pitch n =
    record { across = omega arith; down = omega arith; right = omega arith; bottom = rw zero-mul (omega arith); wide = omega arith; high = omega arith }

-- the clip is empty, or lies in a canvas of w columns and h rows
pub clip_fits : (pitch w h n : ℕ) (reach clip : IRect) → (empty clip ≡ true) ⊎ Within (box_of (pos 0) (pos 0) (pos w) (pos h)) clip
    → w ≤ pitch → w ≤ 2048 → h ≤ 2048 → h * pitch ≤ n → AreaFits pitch (clip_to reach clip) n
unfolding clip_to
clip_fits pitch w h n reach clip ok p q r s =
    split (empty m) (λ t. AreaFits pitch (cond t (area 0 0 0 0) (area_of m)) n) (λ e. nothing_fits pitch n) (λ e. ⊎_elim (λ g. none e g) (λ i. some e i) ok)
  where
    m : IRect
    m = meet reach clip

    none : empty m ≡ false → empty clip ≡ true → AreaFits pitch (area_of m) n
    none e g = let z : true ≡ false = sym g ∙ holds_full clip m (meet_right reach clip) e in let y : ◌≡◌ {A = ℕ} 0 1 = cc in absurd (omega arith)

    some : empty m ≡ false → Within (box_of (pos 0) (pos 0) (pos w) (pos h)) clip → AreaFits pitch (area_of m) n
    some e i =
        let j = (cut_in reach clip e).1 in
        let f = within_nat w h m (omega (order_z, i.left, i.right, i.top, i.bottom)) in
        record {
          across = omega arith;
          down = omega arith;
          right = omega arith;
          bottom = omega (arith, mul-le-mul_right pitch f.3);
          wide = omega arith;
          high = omega arith;
        }

-- ---- one pixel of what a shape leaves: it depends on the old value, the column and the row, and on the clip by whether it holds the pixel alone
pub length_shape : (pitch : ℕ) (clip reach : IRect) (ink : ℕ → ℕ → ℕ → ℕ) (px : List ℕ) → length (drawn pitch clip reach ink px) ≡ length px
unfolding drawn
length_shape pitch clip reach ink px = length_onto (λ i. meets clip reach (i % pitch) (i / pitch)) (λ i p. ink (i % pitch) (i / pitch) p) px

pub shape_at : (pitch : ℕ) (clip reach : IRect) (ink : ℕ → ℕ → ℕ → ℕ) (px : List ℕ) (k : ℕ) → k < length px
    → get_or (drawn pitch clip reach ink px) k 0
    ≡ cond (meets clip reach (k % pitch) (k / pitch)) (ink (k % pitch) (k / pitch) (get_or px k 0)) (get_or px k 0)
unfolding drawn
shape_at pitch clip reach ink px k h = get_d_onto (λ i. meets clip reach (i % pitch) (i / pitch)) (λ i p. ink (i % pitch) (i / pitch) p) px k h
