-- Rooms (change request 2026-03) of sheets of 4 × 2, worked by the definitions: each side computes. Assumes nothing.
use Rattle.std.specs.Prelude.{ℕ, ◌≡◌, refl, List, [], ◌∷◌, ◌++◌, replicate}
use Rattle.std.specs.Float.Ieee.{of_bits, round, add, sub, mul, lt, le, eq, ne, neg, of_int, to_signed, to_unsigned}
use Rattle.mathf.specs.Whole.{floor_of, ceil_of}
use Rattle.geom.specs.Int.{max_z, min_z}
use Rattle.geom.specs.Box.{inside, meet, empty, no_box}
use Rattle.geom.specs.Plane.{float_ok, no_area, outer_of}
use Rattle.fill.specs.Fill.{fill_reach}
use Rattle.bounds.specs.Bounds.{extent_of, origin_of, span_of, poly_box, painted}
use Rattle.gfx.specs.Points.{points_ok, coords_ok}
use Rattle.poly.specs.Poly.{poly_reach, poly_need, poly_ok, need_in, reach_in}
use Rattle.sheet.specs.Bytes.{all_at}
use Rattle.sheet.specs.Kinds as kinds
use Rattle.sheet.specs.Kinds.{layout_at, length_ok, paint_bytes_ok, bytes_ok, paint_floats_ok, floats_ok, saved_ok, item_number}
use Rattle.sheet.specs.Check as checks
use Rattle.sheet.specs.Check.{header_ok, pairs_from, pairs_ok, head_number, number_at, depth_at, sheet_check}
use Rattle.encode.specs.Encode.{pairs, joined, encoded}
use Rattle.items.specs.Items.{read_paint, read_item, coords_from}
use Rattle.items.specs.Format.{reach_of, need_of, drawn_as, items_from, item_need, needs, reading, format, sheet_of}
use Rattle.draw.specs.Frame.{pitch_ok, pitch_number, frame_number}
use Rattle.redraw.specs.declared.Room.{Room}
use Rattle.redraw.specs.Drawing.{popped, after, with_step, steps, meets}
use Rattle.redraw.specs.Sheet.{refuses, draws, canvas, lent, lent_number, draws_unless, paint_of, painting}
use Rattle.redraw.specs.Sums.{sum_to}
use Rattle.redraw.specs.Measure.{deepest, met, met_all, room, room_of, measuring}

-- 0, 1, 2 and 4 as floats
abbrev none : List ℕ
none = replicate 4 0

abbrev one : List ℕ
one = 0 ∷ 0 ∷ 128 ∷ 63 ∷ []

abbrev two : List ℕ
two = 0 ∷ 0 ∷ 0 ∷ 64 ∷ []

abbrev four : List ℕ
four = 0 ∷ 0 ∷ 128 ∷ 64 ∷ []

-- a push of columns 1 and 2, a pop, a red fill of the whole canvas, a red polygon of the points (0, 0), (2, 0) and (2, 2), an
-- unknown kind
abbrev push : List ℕ
push = 1 ∷ 0 ∷ 0 ∷ 0 ∷ one ++ none ++ two ++ two

abbrev pop : List ℕ
pop = 2 ∷ 0 ∷ 0 ∷ 0 ∷ []

abbrev red : List ℕ
red = none ++ 255 ∷ 0 ∷ 0 ∷ 255 ∷ replicate 20 0

abbrev fill : List ℕ
fill = 3 ∷ 0 ∷ 0 ∷ 0 ∷ none ++ none ++ four ++ two ++ none ++ red

abbrev polygon : List ℕ
polygon = 6 ∷ 0 ∷ 3 ∷ 0 ∷ red ++ none ++ none ++ two ++ none ++ two ++ two

abbrev unknown : List ℕ
unknown = 9 ∷ 0 ∷ 0 ∷ 0 ∷ []

abbrev sheet : List (List ℕ) → List ℕ
sheet l = encoded (4 ∷ 0 ∷ 2 ∷ 0 ∷ none) l

abbrev measured : List (List ℕ) → Room
measured l = measuring format (sheet l)

pub rooms :
    -- nothing; a fill, and the same under a clip; clips saved before the end, and a pop with nothing saved
    (measured [] ≡ room 0 0 0 0 0)
    × (measured (fill ∷ push ∷ fill ∷ []) ≡ room 0 0 0 1 12)
    × (measured (pop ∷ push ∷ push ∷ pop ∷ pop ∷ pop ∷ push ∷ fill ∷ []) ≡ room 0 0 0 2 4)
    -- a polygon needs scratch whatever its clip; its reach is one pixel wider than its points on each side
    × (measured (polygon ∷ []) ≡ room 0 0 26 0 6)
    × (measured (push ∷ polygon ∷ fill ∷ []) ≡ room 0 0 26 1 8)
    -- refused: 11 bytes; an unknown kind as second item
    × (measuring format (replicate 11 0) ≡ room 1 0 0 0 0)
    × (measured (polygon ∷ unknown ∷ []) ≡ room 4 2 0 0 0)
unfolding pairs joined encoded measuring room_of deepest met met_all sum_to meets inside steps with_step after popped reading
    sheet_check checks.items_from number_at depth_at head_number header_ok pairs_ok pairs_from item_number saved_ok floats_ok paint_floats_ok
    bytes_ok paint_bytes_ok kinds.points_ok length_ok layout_at all_at float_ok items_from drawn_as read_item read_paint coords_from reach_of
    need_of item_need needs canvas empty meet max_z min_z no_box fill_reach no_area outer_of need_in reach_in poly_ok points_ok coords_ok
    poly_reach poly_need painted poly_box span_of origin_of extent_of floor_of ceil_of of_bits round add sub mul of_int lt le eq ne neg
    to_signed to_unsigned
rooms = (refl, refl, refl, refl, refl, refl, refl)

-- with the words told the polygon is painted, with one fewer not
pub lends :
    (painting format (sheet (polygon ∷ [])) 4 8 26
    ≡ draws (sheet_of (sheet (polygon ∷ []))) (canvas (sheet_of (sheet (polygon ∷ [])))))
    × (painting format (sheet (polygon ∷ [])) 4 8 25 ≡ refuses 9 0)
    -- and in longer rows
    × (painting format (sheet (polygon ∷ [])) 9 18 26
    ≡ draws (sheet_of (sheet (polygon ∷ []))) (canvas (sheet_of (sheet (polygon ∷ [])))))
    × (painting format (sheet (polygon ∷ [])) 9 18 25 ≡ refuses 9 0)
unfolding pairs joined encoded painting paint_of lent lent_number draws_unless frame_number pitch_number pitch_ok reading sheet_check
    checks.items_from number_at depth_at head_number header_ok pairs_ok pairs_from item_number saved_ok floats_ok paint_floats_ok bytes_ok
    paint_bytes_ok kinds.points_ok length_ok layout_at all_at float_ok items_from drawn_as read_item read_paint coords_from need_of item_need
    needs canvas need_in poly_ok points_ok coords_ok poly_need painted poly_box span_of origin_of extent_of floor_of ceil_of of_bits round add
    sub mul of_int lt le eq ne neg to_signed to_unsigned
lends = (refl, refl, refl, refl)
