-- The starred examples of document 01, one joint statement over the definitions: each side computes. Assumes nothing.
use Rattle.std.specs.Prelude.{◌≡◌, refl, List, [], ◌∷◌, ◌++◌, ℕ, pos, replicate}
use Rattle.std.specs.Float.{binary32, nan}
use Rattle.std.specs.Float.Ieee.{of_bits, round, add, sub, mul, lt, le, eq, ne, neg, of_int, to_signed, to_unsigned}
use Rattle.mathf.specs.F32.{f0, f½, f1}
use Rattle.mathf.specs.Root.{sqrt_of}
use Rattle.mathf.specs.Whole.{floor_of, ceil_of}
use Rattle.mathf.specs.Examples.{floor_minus_half, ceil_minus_half, root_two}
use Rattle.geom.specs.Int.{max_z, min_z}
use Rattle.geom.specs.Box.{box_of, inside, meet, empty, no_box, around, join, join_all}
use Rattle.geom.specs.Plane.{rect_of, float_ok, no_area, outer_of}
use Rattle.color.specs.Inks.{blended, covered_by, over, over_c}
use Rattle.color.specs.Colours.{rgba_of}
use Rattle.color.specs.Examples.{ink_127, ink_128, red_128, alpha_0, alpha_1, cover_128}
use Rattle.draw.specs.Draw.{each_at, onto, meets, drawn, differ, in_columns}
use Rattle.draw.specs.Parts.{alters_all}
use Rattle.paints.specs.Paints.{paint_at, radius_of, corner_sd, rrect_sd, cov8_of}
use Rattle.paints.specs.declared.Paint.TheVariants.{Solid}
use Rattle.fill.specs.Examples.{half_white_and_red}
use Rattle.fill.specs.Fill.{fill_reach, middle, cover_of, rim_ink, middle_ink, round_ink, fill_ink}
use Rattle.sheet.specs.Bytes.{all_at}
use Rattle.sheet.specs.Kinds.{layout_at, length_ok, points_ok, paint_bytes_ok, bytes_ok, paint_floats_ok, floats_ok, saved_ok, item_number}
use Rattle.sheet.specs.Check as checks
use Rattle.sheet.specs.Check.{header_ok, pairs_from, pairs_ok, head_number, number_at, depth_at, sheet_check}
use Rattle.items.specs.Items.{read_paint, read_item}
use Rattle.items.specs.Format.{reach_of, ink_of, parts_of, need_of, drawn_as, items_from, item_need, needs, same_bytes, same_box, same_item}
use Rattle.items.specs.Format.{reading, kind, format}
use Rattle.redraw.specs.Drawing.{after, shape_on, item_on, items_on, ground_in}
use Rattle.redraw.specs.Counts.{item_alters, items_alter, steps_of, grounds_of}
use Rattle.draw.specs.Frame.{pitch_ok, pitch_number, frame_number}
use Rattle.redraw.specs.Sheet.{canvas, same_header, few, too_many, with_pair, both_shapes, change, reaches, lent_number, draws_unless}
use Rattle.redraw.specs.Sheet.{lent, paint_of, patch_by, patch_of, painting, patching, answer, pixels}

-- 0, 1 and 2 as the bytes of floats
abbrev pub zero : List ℕ
zero = 0 ∷ 0 ∷ 0 ∷ 0 ∷ []

abbrev one : List ℕ
one = 0 ∷ 0 ∷ 128 ∷ 63 ∷ []

abbrev pub two : List ℕ
two = 0 ∷ 0 ∷ 0 ∷ 64 ∷ []

-- the sheet 4 × 1, ground 0, with one solid fill (x, 0, 1, 1), red, alpha 255, r 0
abbrev pub red : List ℕ → List ℕ
red x =
    4 ∷ 0 ∷ 1 ∷ 0 ∷ 0 ∷ 0 ∷ 0 ∷ 0 ∷ 1 ∷ 0 ∷ 0 ∷ 0 ∷ 16 ∷ 0 ∷ 52 ∷ 0 ∷ 3 ∷ 0 ∷ 0 ∷ 0 ∷ x ++ zero ++ one ++ one ++ zero ++ zero
    ++ 255 ∷ 0 ∷ 0 ∷ 255 ∷ replicate 20 0

-- painted, and then patched to (2, 0, 1, 1): box 0,0,3,1, red only in the third pixel
pub moved :
    (pixels kind 4 (painting format (red zero) 4 4 0) (7 ∷ 7 ∷ 7 ∷ 7 ∷ []) ≡ 0x00ff_0000 ∷ 0 ∷ 0 ∷ 0 ∷ [])
    × (answer (patching format (red zero) (red two) 4 4 0)
    ≡ record { number = 0; item = 0; area = box_of (pos 0) (pos 0) (pos 3) (pos 1) })
    × (pixels kind 4 (patching format (red zero) (red two) 4 4 0) (0x00ff_0000 ∷ 0 ∷ 0 ∷ 0 ∷ []) ≡ 0 ∷ 0 ∷ 0x00ff_0000 ∷ 0 ∷ [])
unfolding painting paint_of patching patch_of patch_by lent lent_number draws_unless frame_number pitch_number pitch_ok reading sheet_check
    checks.items_from number_at depth_at head_number header_ok pairs_ok pairs_from item_number saved_ok floats_ok paint_floats_ok bytes_ok
    paint_bytes_ok points_ok length_ok layout_at all_at float_ok items_from drawn_as read_item read_paint reach_of ink_of need_of item_need needs
    same_item same_bytes same_box same_header change both_shapes with_pair few too_many reaches canvas join_all join around empty meet
    max_z min_z no_box answer pixels items_on item_on shape_on after ground_in drawn onto each_at meets inside in_columns fill_reach no_area
    outer_of middle cover_of rim_ink middle_ink round_ink paint_at radius_of rrect_sd corner_sd cov8_of blended covered_by floor_of ceil_of
    of_bits round add sub mul of_int lt le eq ne neg to_signed to_unsigned
moved = (refl, refl, refl)

-- what the two calls count: the painting on four words of 7, and the patch on what it left
pub counted :
    (steps_of kind 4 (painting format (red zero) 4 4 0) (7 ∷ 7 ∷ 7 ∷ 7 ∷ []) ≡ 1)
    × (grounds_of kind 4 (painting format (red zero) 4 4 0) (7 ∷ 7 ∷ 7 ∷ 7 ∷ []) ≡ 4)
    × (steps_of kind 4 (patching format (red zero) (red two) 4 4 0) (0x00ff_0000 ∷ 0 ∷ 0 ∷ 0 ∷ []) ≡ 1)
    × (grounds_of kind 4 (patching format (red zero) (red two) 4 4 0) (0x00ff_0000 ∷ 0 ∷ 0 ∷ 0 ∷ []) ≡ 1)
unfolding painting paint_of patching patch_of patch_by lent lent_number draws_unless frame_number pitch_number pitch_ok reading sheet_check
    checks.items_from number_at depth_at head_number header_ok pairs_ok pairs_from item_number saved_ok floats_ok paint_floats_ok bytes_ok
    paint_bytes_ok points_ok length_ok layout_at all_at float_ok items_from drawn_as read_item read_paint reach_of ink_of need_of item_need needs
    same_item same_bytes same_box same_header change both_shapes with_pair few too_many reaches canvas join_all join around empty meet
    max_z min_z no_box item_on shape_on after ground_in steps_of grounds_of items_alter item_alters alters_all parts_of differ drawn onto
    each_at meets inside in_columns fill_reach no_area outer_of middle cover_of rim_ink middle_ink round_ink paint_at radius_of rrect_sd
    corner_sd cov8_of blended covered_by floor_of ceil_of of_bits round add sub mul of_int lt le eq ne neg to_signed to_unsigned
counted = (refl, refl, refl, refl)

-- every starred example of document 01, in its order
pub starred :
    -- `blend` old 0: ink 127, alpha 1 gives 0; ink 128 gives 1
    (blended 0 0 0 127 1 ≡ 0)
    × (blended 0 0 0 128 1 ≡ 1)
    -- red 255 at alpha 128 on 0
    × (blended 0 255 0 0 128 ≡ 0x0080_0000)
    -- old 0xFF123456, alpha 0: unaltered
    × ((r g b : ℕ) → blended 0xff12_3456 r g b 0 ≡ 0xff12_3456)
    -- old 0xFF000000, ink 0, alpha 1
    × (blended 0xff00_0000 0 0 0 1 ≡ 0)
    -- `blend_c` alpha 128, coverage 128 uses 64
    × ((p r g b : ℕ) → over_c p (rgba_of r g b 128) 128 ≡ over p (rgba_of r g b 128) 64)
    -- `cov8` of 0, 0.5, -0.5 and NaN
    × (cov8_of f0 ≡ 128)
    × (cov8_of f½ ≡ 0)
    × (cov8_of (neg f½) ≡ 255)
    × (cov8_of nan ≡ 0)
    -- sqrt(2)
    × (sqrt_of (of_bits binary32 0x4000_0000) ≡ of_bits binary32 0x3fb5_04f3)
    -- floor(-0.5) is -1, ceil is -0
    × (floor_of (of_bits binary32 0xbf00_0000) ≡ of_bits binary32 0xbf80_0000)
    × (ceil_of (of_bits binary32 0xbf00_0000) ≡ of_bits binary32 0x8000_0000)
    -- white fill (0.5, 0, 1, 1) on 2 × 1 of 0
    × (drawn 2 (box_of (pos 0) (pos 0) (pos 2) (pos 1)) (fill_reach (rect_of f½ f0 f1 f1))
    (fill_ink (rect_of f½ f0 f1 f1) f0 (Solid (rgba_of 255 255 255 255))) (0 ∷ 0 ∷ []) ≡ 0x0080_8080 ∷ 0x0080_8080 ∷ [])
    -- the sheet of `paintsheet`, patched to (2, 0, 1, 1): box 0,0,3,1
    × (answer (patching format (red zero) (red two) 4 4 0)
    ≡ record { number = 0; item = 0; area = box_of (pos 0) (pos 0) (pos 3) (pos 1) })
    -- and red only in the third pixel
    × (pixels kind 4 (patching format (red zero) (red two) 4 4 0) (0x00ff_0000 ∷ 0 ∷ 0 ∷ 0 ∷ []) ≡ 0 ∷ 0 ∷ 0x00ff_0000 ∷ 0 ∷ [])
unfolding cov8_of of_bits round sub mul add lt neg to_unsigned
starred = (
  ink_127,
  ink_128,
  red_128,
  alpha_0,
  alpha_1,
  cover_128,
  refl,
  refl,
  refl,
  refl,
  root_two,
  floor_minus_half,
  ceil_minus_half,
  half_white_and_red.0,
  moved.1,
  moved.2,
)
