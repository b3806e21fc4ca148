-- The paper's examples of fills, over the definitions: each side computes. Assumes nothing.
use Rattle.std.specs.Prelude.{◌≡◌, refl, List, [], ◌∷◌, ℕ, pos}
use Rattle.std.specs.Float.Ieee.{of_bits, round, add, sub, mul, lt, le, ne, of_int, to_signed, to_unsigned}
use Rattle.mathf.specs.F32.{f0, f½, f1}
use Rattle.mathf.specs.Whole.{floor_of, ceil_of}
use Rattle.geom.specs.declared.Rect.{Rect}
use Rattle.geom.specs.Box.{box_of, inside}
use Rattle.geom.specs.Plane.{rect_of, no_area, outer_of}
use Rattle.color.specs.declared.Color.{Color}
use Rattle.color.specs.Inks.{blended, covered_by}
use Rattle.color.specs.Colours.{rgba_of}
use Rattle.draw.specs.Draw.{each_at, onto, meets, drawn, in_columns}
use Rattle.paints.specs.declared.Paint.TheVariants.{Solid}
use Rattle.paints.specs.Paints.{paint_at, radius_of, corner_sd, rrect_sd, cov8_of}
use Rattle.fill.specs.Fill.{fill_reach, middle, cover_of, rim_ink, middle_ink, round_ink, fill_ink}

-- a solid rectangle without round corners, drawn on one row of w pixels
abbrev on_row : ℕ → Rect → Color → List ℕ → List ℕ
on_row w rect c px = drawn w (box_of (pos 0) (pos 0) (pos w) (pos 1)) (fill_reach rect) (fill_ink rect f0 (Solid c)) px

-- white, (0.5, 0, 1, 1) on 2 × 1 of 0: both 0x00808080; red, (0, 0, 1, 1) on 4 × 1 of 0: the first pixel
pub half_white_and_red :
    (on_row 2 (rect_of f½ f0 f1 f1) (rgba_of 255 255 255 255) (0 ∷ 0 ∷ []) ≡ 0x0080_8080 ∷ 0x0080_8080 ∷ [])
    × (on_row 4 (rect_of f0 f0 f1 f1) (rgba_of 255 0 0 255) (0 ∷ 0 ∷ 0 ∷ 0 ∷ []) ≡ 0x00ff_0000 ∷ 0 ∷ 0 ∷ 0 ∷ [])
unfolding drawn onto each_at meets inside in_columns fill_reach no_area outer_of middle cover_of rim_ink middle_ink round_ink paint_at
    radius_of rrect_sd corner_sd cov8_of blended covered_by floor_of ceil_of of_bits round add sub mul of_int lt le ne to_signed to_unsigned
half_white_and_red = (refl, refl)
