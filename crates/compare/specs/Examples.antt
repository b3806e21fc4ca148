-- Patches of a set (change request 2026-01), with chains (2026-04) and under clips (2026-09), worked by the definitions: each
-- side computes. Assumes nothing.
use Rattle.std.specs.Prelude.{ℕ, zero, suc, ◌+◌, ◌*◌, ◌/◌, ◌%◌, ◌≡◌, refl, List, [], ◌∷◌, ◌++◌, pos, length, replicate}
use Rattle.std.specs.Float.Ieee.{of_bits, round, add, sub, mul, lt, le, eq, ne, neg, of_int, to_signed, to_unsigned}
use Rattle.mathf.specs.Whole.{floor_of, ceil_of}
use Rattle.geom.specs.Int.{max_z, min_z}
use Rattle.geom.specs.Box.{box_of, meet, empty, no_box, around, join, join_all}
use Rattle.geom.specs.declared.IRect.{IRect}
use Rattle.geom.specs.Plane.{float_ok, no_area, outer_of}
use Rattle.fill.specs.Fill.{fill_reach}
use Rattle.line.specs.Lines.{abs_of, line_reach}
use Rattle.line.specs.Polylines.{lines_from}
use Rattle.stroke.specs.Stroke.{stroke_reach}
use Rattle.sheet.specs.Bytes.{all_at}
use Rattle.sheet.specs.Kinds.{layout_at, length_ok, points_ok, paint_bytes_ok, bytes_ok, paint_floats_ok, floats_ok, saved_ok, item_number}
use Rattle.sheet.specs.Check as checks
use Rattle.sheet.specs.Check.{header_ok, pairs_from, pairs_ok, head_number, number_at, depth_at, sheet_check}
use Rattle.items.specs.Items.{read_paint, read_item, coords_from}
use Rattle.items.specs.Format.{reach_of, need_of, drawn_as, items_from, item_need, needs, same_bytes, same_box, same_item, sheet_of}
use Rattle.items.specs.Format.{reading, format}
use Rattle.redraw.specs.declared.Answer.{Answer}
use Rattle.compare.specs.Compare.{change_number}
use Rattle.draw.specs.Frame.{pitch_ok, pitch_number, frame_number}
use Rattle.redraw.specs.Drawing.{after, popped}
use Rattle.redraw.specs.Sheet.{Sheet, Pair, shapes, refuses, canvas, same_header, few, too_many, with_pair, both_shapes, change}
use Rattle.redraw.specs.Sheet.{change_in, reaches, lent, lent_number, draws_unless, patch_by, patch_of, patching, refusal, answer}

-- a number as two bytes; -9, 0, 1, 2 and 9 as floats
abbrev u16 : ℕ → List ℕ
u16 n = n % 256 ∷ n / 256 ∷ []

abbrev minus : List ℕ
minus = 0 ∷ 0 ∷ 16 ∷ 193 ∷ []

abbrev none : List ℕ
none = replicate 4 0

abbrev one : List ℕ
one = 0 ∷ 0 ∷ 128 ∷ 63 ∷ []

abbrev two : List ℕ
two = 0 ∷ 0 ∷ 0 ∷ 64 ∷ []

abbrev nine : List ℕ
nine = 0 ∷ 0 ∷ 16 ∷ 65 ∷ []

-- a fill at (x, 0), 1 wide and high, with r 0, black or red; an outline at the same place, which is shorter; a line from (x, 0);
-- a push
abbrev fill : List ℕ → ℕ → List ℕ
fill x red = 3 ∷ 0 ∷ 0 ∷ 0 ∷ x ++ none ++ one ++ one ++ none ++ none ++ red ∷ 0 ∷ 0 ∷ 255 ∷ replicate 20 0

abbrev outline : List ℕ → List ℕ
outline x = 4 ∷ 0 ∷ 0 ∷ 0 ∷ x ++ none ++ one ++ one ++ none ++ one ++ 0 ∷ 0 ∷ 0 ∷ 255 ∷ []

abbrev line : List ℕ → List ℕ
line x = 5 ∷ 0 ∷ 0 ∷ 0 ∷ x ++ replicate 20 0

abbrev push : List ℕ → List ℕ
push x = 1 ∷ 0 ∷ 0 ∷ 0 ∷ x ++ replicate 12 0

-- n times one item; the pairs of some items, and their bytes; the sheet 4 × 1 of them
unfoldable pub copies : ℕ → List ℕ → List (List ℕ)
copies zero item = []
copies (suc n) item = item ∷ copies n item

unfoldable pub pairs_of : List (List ℕ) → ℕ → List ℕ
pairs_of [] at = []
pairs_of (i ∷ l) at = u16 at ++ u16 (length i) ++ pairs_of l (at + length i)

unfoldable pub joined : List (List ℕ) → List ℕ
joined [] = []
joined (i ∷ l) = i ++ joined l

abbrev sheet : List (List ℕ) → List ℕ
sheet l = u16 4 ++ u16 1 ++ none ++ u16 (length l) ++ u16 0 ++ pairs_of l (12 + 4 * length l) ++ joined l

abbrev accepted : IRect → Answer
accepted area = record { number = 0; item = 0; area = area }

-- what a patch answers, in rows of `pitch` words, with px of so many words; and in rows that are as long as the canvas
abbrev answered_in : List (List ℕ) → List (List ℕ) → ℕ → ℕ → Answer
answered_in old new pitch px = answer (patching format (sheet old) (sheet new) pitch px 0)

abbrev answered : List (List ℕ) → List (List ℕ) → ℕ → Answer
answered old new px = answered_in old new 4 px

pub edges :
    -- no shape differs, one, two; px is too short
    (answered (fill none 0 ∷ []) (fill none 0 ∷ []) 4 ≡ accepted no_box)
    × (answered (fill none 0 ∷ []) (fill two 0 ∷ []) 4 ≡ accepted (box_of (pos 0) (pos 0) (pos 3) (pos 1)))
    × (answered (copies 2 (fill none 0)) (copies 2 (fill two 0)) 4 ≡ accepted (box_of (pos 0) (pos 0) (pos 3) (pos 1)))
    × (answered (copies 2 (fill none 0)) (copies 2 (fill two 0)) 3 ≡ refusal 8 0)
    -- one shape leaves the canvas and another comes
    × (answered (fill none 0 ∷ fill nine 0 ∷ []) (fill minus 0 ∷ fill one 0 ∷ []) 4
    ≡ accepted (box_of (pos 0) (pos 0) (pos 2) (pos 1)))
    -- two shapes change places
    × (answered (fill none 0 ∷ fill one 255 ∷ []) (fill one 255 ∷ fill none 0 ∷ []) 4
    ≡ accepted (box_of (pos 0) (pos 0) (pos 2) (pos 1)))
    -- a shape grows: the one after it stands at another offset and does not differ
    × (answered (outline none ∷ fill two 0 ∷ []) (fill none 0 ∷ fill two 0 ∷ []) 4
    ≡ accepted (box_of (pos 0) (pos 0) (pos 1) (pos 1)))
    -- a push differs, beside a shape
    × (answered (fill none 0 ∷ push none ∷ []) (fill two 0 ∷ push one ∷ []) 4 ≡ refusal 10 0)
    -- rows of 5, 4,096 and 4,097 words, and of one word fewer than the canvas has columns: 15 comes after 10 and before 8
    × (answered_in (fill none 0 ∷ []) (fill two 0 ∷ []) 5 5 ≡ accepted (box_of (pos 0) (pos 0) (pos 3) (pos 1)))
    × (answered_in (fill none 0 ∷ []) (fill two 0 ∷ []) 5 4 ≡ refusal 8 0)
    × (answered_in (fill none 0 ∷ []) (fill two 0 ∷ []) 4096 4096 ≡ accepted (box_of (pos 0) (pos 0) (pos 3) (pos 1)))
    × (answered_in (fill none 0 ∷ []) (fill two 0 ∷ []) 4097 4097 ≡ refusal 15 0)
    × (answered_in (fill none 0 ∷ []) (fill two 0 ∷ []) 3 4 ≡ refusal 15 0)
    × (answered_in (fill none 0 ∷ push none ∷ []) (fill two 0 ∷ push one ∷ []) 3 4 ≡ refusal 10 0)
unfolding copies pairs_of joined patching patch_of patch_by lent lent_number draws_unless frame_number pitch_number pitch_ok reading
    sheet_check checks.items_from number_at depth_at head_number header_ok pairs_ok pairs_from item_number saved_ok floats_ok paint_floats_ok
    bytes_ok paint_bytes_ok points_ok length_ok layout_at all_at float_ok items_from drawn_as read_item read_paint reach_of need_of item_need
    needs same_item same_bytes same_box same_header change after both_shapes with_pair few too_many reaches canvas join_all join around
    empty meet max_z min_z no_box answer refusal fill_reach stroke_reach no_area outer_of floor_of ceil_of of_bits round add sub mul of_int
    lt le eq ne neg to_signed to_unsigned
edges = (refl, refl, refl, refl, refl, refl, refl, refl, refl, refl, refl, refl, refl, refl)

-- n lines from (x, 0)
abbrev many : ℕ → List ℕ → List (List ℕ)
many n x = copies n (line x)

-- the number of how two sheets differ, which hangs on no clip
abbrev differing : List (List ℕ) → List (List ℕ) → ℕ
differing old new = change_number (change_in format no_box (sheet_of (sheet old)) (sheet_of (sheet new)))

-- none of 33 shapes differs, 32, and 33; also with a push after them, or before them
pub limits :
    (differing (many 33 none) (many 33 none) ≡ 0)
    × (differing (many 32 none) (many 32 one) ≡ 0)
    × (differing (many 33 none) (many 33 one) ≡ 14)
    × (differing (many 33 none ++ push none ∷ []) (many 33 one ++ push one ∷ []) ≡ 10)
    × (differing (push none ∷ many 33 none) (push one ∷ many 33 one) ≡ 10)
unfolding copies pairs_of joined change after both_shapes with_pair few items_from drawn_as read_item read_paint same_item same_bytes
    change_number
limits = (refl, refl, refl, refl, refl)

-- 33 shapes are refused by 14 whatever pitch, px and scratch are lent: 14 comes before 15, 8 and 9
pub before_lengths : (l : List (Pair (List ℕ))) (s : Sheet (List ℕ)) (pitch px words : ℕ) → length l ≡ 33
    → patch_by format (shapes l) s pitch px words ≡ refuses 14 0
unfolding patch_by few too_many
before_lengths l s pitch px words e = rw e

-- a chain of n points with width -2, so that a line reaches the box between its ends and no more
abbrev chain : ℕ → List ℕ → List ℕ
chain n points = 8 ∷ 0 ∷ n ∷ 0 ∷ 0 ∷ 0 ∷ 0 ∷ 192 ∷ 0 ∷ 0 ∷ 0 ∷ 255 ∷ points

-- one point; from (0, 0) to (1, 1), and on to (2, 0)
abbrev start : List ℕ
start = chain 1 (none ++ none)

abbrev short : List ℕ
short = chain 2 (none ++ none ++ one ++ one)

abbrev long : List ℕ
long = chain 3 (none ++ none ++ one ++ one ++ two ++ none)

pub chains :
    -- a chain begins, grows, and is cut back to one point
    (answered (start ∷ []) (short ∷ []) 4 ≡ accepted (box_of (pos 0) (pos 0) (pos 1) (pos 1)))
    × (answered (short ∷ []) (long ∷ []) 4 ≡ accepted (box_of (pos 0) (pos 0) (pos 2) (pos 1)))
    × (answered (long ∷ []) (start ∷ []) 4 ≡ accepted (box_of (pos 0) (pos 0) (pos 2) (pos 1)))
    -- a fill for a chain, and back; for one that has no reach
    × (answered (short ∷ []) (fill two 0 ∷ []) 4 ≡ accepted (box_of (pos 0) (pos 0) (pos 3) (pos 1)))
    × (answered (fill two 0 ∷ []) (long ∷ []) 4 ≡ accepted (box_of (pos 0) (pos 0) (pos 3) (pos 1)))
    × (answered (start ∷ []) (fill two 0 ∷ []) 4 ≡ accepted (box_of (pos 2) (pos 0) (pos 3) (pos 1)))
    -- a push for a chain
    × (answered (short ∷ []) (push one ∷ []) 4 ≡ refusal 10 0)
unfolding copies pairs_of joined patching patch_of patch_by lent lent_number draws_unless frame_number pitch_number pitch_ok reading
    sheet_check checks.items_from number_at depth_at head_number header_ok pairs_ok pairs_from item_number saved_ok floats_ok paint_floats_ok
    bytes_ok paint_bytes_ok points_ok length_ok layout_at all_at float_ok items_from drawn_as read_item read_paint coords_from reach_of need_of
    item_need needs same_item same_bytes same_box same_header change after both_shapes with_pair few too_many reaches canvas join_all join
    around empty meet max_z min_z no_box answer refusal lines_from line_reach abs_of fill_reach no_area outer_of floor_of ceil_of of_bits
    round add sub mul of_int lt le eq ne neg to_signed to_unsigned
chains = (refl, refl, refl, refl, refl, refl, refl)

-- a fill of the columns from 0 up to w; a push of the columns from x up to x + w; a pop
abbrev bar : List ℕ → List ℕ
bar w = 3 ∷ 0 ∷ 0 ∷ 0 ∷ none ++ none ++ w ++ one ++ none ++ none ++ 0 ∷ 0 ∷ 0 ∷ 255 ∷ replicate 20 0

abbrev column : List ℕ → List ℕ → List ℕ
column x w = 1 ∷ 0 ∷ 0 ∷ 0 ∷ x ++ none ++ w ++ one

abbrev back : List ℕ
back = 2 ∷ 0 ∷ 0 ∷ 0 ∷ []

pub columns :
    -- a bar grows from 2 columns to 9, whole; under a push of column 1; under one of columns 1 and 2 in one of 0 and 1; after a
    -- pop
    (answered (bar two ∷ []) (bar nine ∷ []) 4 ≡ accepted (box_of (pos 0) (pos 0) (pos 4) (pos 1)))
    × (answered (column one one ∷ bar two ∷ []) (column one one ∷ bar nine ∷ []) 4
    ≡ accepted (box_of (pos 1) (pos 0) (pos 2) (pos 1)))
    × (answered (column none two ∷ column one two ∷ bar two ∷ []) (column none two ∷ column one two ∷ bar nine ∷ []) 4
    ≡ accepted (box_of (pos 1) (pos 0) (pos 2) (pos 1)))
    × (answered (column one one ∷ back ∷ bar two ∷ []) (column one one ∷ back ∷ bar nine ∷ []) 4
    ≡ accepted (box_of (pos 0) (pos 0) (pos 4) (pos 1)))
    -- the clip is the one at the item: a push after it does not cut it
    × (answered (bar two ∷ column one one ∷ []) (bar nine ∷ column one one ∷ []) 4
    ≡ accepted (box_of (pos 0) (pos 0) (pos 4) (pos 1)))
    -- old and new shape, of which the clip hides one, and both
    × (answered (column one one ∷ fill one 0 ∷ []) (column one one ∷ fill two 0 ∷ []) 4
    ≡ accepted (box_of (pos 1) (pos 0) (pos 2) (pos 1)))
    × (answered (column one one ∷ fill none 0 ∷ []) (column one one ∷ fill two 0 ∷ []) 4 ≡ accepted no_box)
    -- two shapes, under two clips
    × (answered (fill none 0 ∷ column two one ∷ bar two ∷ []) (fill one 0 ∷ column two one ∷ bar nine ∷ []) 4
    ≡ accepted (box_of (pos 0) (pos 0) (pos 3) (pos 1)))
unfolding copies pairs_of joined patching patch_of patch_by lent lent_number draws_unless frame_number pitch_number pitch_ok reading
    sheet_check checks.items_from number_at depth_at head_number header_ok pairs_ok pairs_from item_number saved_ok floats_ok paint_floats_ok
    bytes_ok paint_bytes_ok points_ok length_ok layout_at all_at float_ok items_from drawn_as read_item read_paint reach_of need_of item_need
    needs same_item same_bytes same_box same_header change after popped both_shapes with_pair few too_many reaches canvas join_all join
    around empty meet max_z min_z no_box answer refusal fill_reach no_area outer_of floor_of ceil_of of_bits round add sub mul of_int lt le
    eq ne neg to_signed to_unsigned
columns = (refl, refl, refl, refl, refl, refl, refl, refl)
