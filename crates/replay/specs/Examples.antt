-- Examples of the ceiling on patch work, under clips too (document 02, 2026-09): each side computes. Assumes nothing.
use Rattle.std.specs.Prelude.{◌≡◌, refl, List, [], ◌∷◌, ◌++◌, ℕ, pos}
use Rattle.std.specs.Float.Ieee.{of_bits, round, add, sub, mul, lt, le, eq, ne, neg, of_int, to_signed, to_unsigned}
use Rattle.mathf.specs.Whole.{floor_of, ceil_of}
use Rattle.geom.specs.declared.IRect.{IRect}
use Rattle.geom.specs.Int.{max_z, min_z}
use Rattle.geom.specs.Box.{box_of, meet, empty, no_box, join_all}
use Rattle.geom.specs.Plane.{float_ok, no_area, outer_of}
use Rattle.fill.specs.Fill.{fill_reach}
use Rattle.line.specs.Lines.{abs_of, line_reach}
use Rattle.line.specs.Polylines.{lines_from}
use Rattle.sheet.specs.Bytes.{all_at}
use Rattle.sheet.specs.Kinds.{layout_at, length_ok, points_ok, paint_bytes_ok, bytes_ok, paint_floats_ok, floats_ok, saved_ok, item_number}
use Rattle.sheet.specs.Check as checks
use Rattle.sheet.specs.Check.{header_ok, pairs_from, pairs_ok, head_number, number_at, depth_at, sheet_check}
use Rattle.items.specs.Items.{read_paint, read_item, coords_from}
use Rattle.items.specs.Format.{reach_of, parts_of, need_of, drawn_as, items_from, item_need, needs, same_bytes, same_item, reading, kind}
use Rattle.items.specs.Format.{format}
use Rattle.draw.specs.Frame.{pitch_ok, pitch_number, frame_number}
use Rattle.redraw.specs.Sheet.{canvas, same_header, few, change, reaches, lent_number, draws_unless, lent, patch_by, patch_of}
use Rattle.redraw.specs.Sheet.{patching, answer}
use Rattle.redraw.specs.Drawing.{after}
use Rattle.redraw.specs.Ceiling.{box_area, parts_meeting, shapes_meeting, read_meeting}
use Rattle.replay.specs.Starred.{red, zero, two}

-- the columns x0 up to x1 of the first row
abbrev columns : ℕ → ℕ → IRect
columns x0 x1 = box_of (pos x0) (pos 0) (pos x1) (pos 1)

-- 8 and 16 as the bytes of floats
abbrev eight : List ℕ
eight = 0 ∷ 0 ∷ 0 ∷ 65 ∷ []

abbrev sixteen : List ℕ
sixteen = 0 ∷ 0 ∷ 128 ∷ 65 ∷ []

-- a chain of width 2 from column 0 by column 8 to column 16, red, alpha 128; a push of the columns 0 up to 6
abbrev chain : List ℕ
chain = 8 ∷ 0 ∷ 3 ∷ 0 ∷ two ++ 255 ∷ 0 ∷ 0 ∷ 128 ∷ zero ++ zero ++ eight ++ zero ++ sixteen ++ zero

abbrev push : List ℕ
push = 1 ∷ 0 ∷ 0 ∷ 0 ∷ zero ++ zero ++ 0 ∷ 0 ∷ 192 ∷ 64 ∷ 0 ∷ 0 ∷ 128 ∷ 63 ∷ []

-- the sheet 16 × 1, ground 0, with the chain alone, and with the chain under the push
abbrev trace : List ℕ
trace = 16 ∷ 0 ∷ 1 ∷ 0 ∷ 0 ∷ 0 ∷ 0 ∷ 0 ∷ 1 ∷ 0 ∷ 0 ∷ 0 ∷ 16 ∷ 0 ∷ 36 ∷ 0 ∷ chain

abbrev clipped : List ℕ
clipped = 16 ∷ 0 ∷ 1 ∷ 0 ∷ 0 ∷ 0 ∷ 0 ∷ 0 ∷ 2 ∷ 0 ∷ 0 ∷ 0 ∷ 20 ∷ 0 ∷ 20 ∷ 0 ∷ 40 ∷ 0 ∷ 36 ∷ 0 ∷ push ++ chain

-- the shapes of a sheet that meet a box
abbrev meeting : IRect → List ℕ → ℕ
meeting box sheet = read_meeting kind box (reading sheet)

pub ceilings :
    -- the starred patch to (2, 0, 1, 1) has a box of three pixels, which meets the one shape of the new sheet
    (box_area (columns 0 3) ≡ 3)
    × (meeting (columns 0 3) (red two) ≡ 1)
    -- a box that ends where the reach begins does not meet it
    × (meeting (columns 0 2) (red two) ≡ 0)
    -- the segments of the chain reach from column -2 up to 10 and from 6 up to 18
    × (meeting (columns 0 6) trace ≡ 1)
    × (meeting (columns 0 7) trace ≡ 2)
    × (meeting (columns 10 16) trace ≡ 1)
    × (meeting no_box trace ≡ 0)
    -- under the push the first reaches up to 6, and the second nothing
    × (meeting (columns 0 7) clipped ≡ 1)
    × (meeting (columns 5 16) clipped ≡ 1)
    × (meeting (columns 6 16) clipped ≡ 0)
    -- a patch between equal sheets is accepted, and its box is empty
    × (answer (patching format (red two) (red two) 4 4 0) ≡ record { number = 0; item = 0; area = no_box })
unfolding patching patch_of patch_by lent lent_number draws_unless frame_number pitch_number pitch_ok answer same_item same_bytes
    same_header change after few reaches canvas join_all need_of item_need needs read_meeting shapes_meeting parts_meeting reading
    sheet_check checks.items_from number_at depth_at head_number header_ok pairs_ok pairs_from item_number saved_ok floats_ok paint_floats_ok
    bytes_ok paint_bytes_ok points_ok length_ok layout_at all_at float_ok items_from drawn_as read_item read_paint coords_from reach_of parts_of
    lines_from line_reach abs_of empty meet max_z min_z no_box fill_reach no_area outer_of floor_of ceil_of of_bits round add sub mul of_int lt
    le eq ne neg to_signed to_unsigned
ceilings = (refl, refl, refl, refl, refl, refl, refl, refl, refl, refl, refl)
