-- Steps worked by the definitions (document 02, 2026-13), on a canvas of 3 × 2 in rows of 4 words: each side computes. Assumes
-- nothing.
use Rattle.std.specs.Prelude.{ℕ, List, [], ◌∷◌, ◌≡◌, refl, pos, replicate}
use Rattle.geom.specs.Box.{box_of, inside, empty, no_box}
use Rattle.geom.specs.declared.IRect.{IRect}
use Rattle.draw.specs.Frame.{pitch_ok, pitch_number, frame_number}
use Rattle.gfx.specs.State.{side_ok, range_in, in_canvas, clip_ok, both_zero, four_zeros, place_ok, places_ok, frame_ok, valid_of, fresh_of}
use Rattle.gfx.specs.Calls.{px_number}
use Rattle.gfx.specs.declared.Canvas.{Canvas}
use Rattle.panel.specs.declared.Panel.{Panel}
use Rattle.panel.specs.Registers.{column, row, pixels_left, ready, fresh_panel, place_in, transfer_ok, flags_ok, panel_ok}
use Rattle.panel.specs.Registers.{panel_number, command_ok, command_number, flags_number, take_number, finished, row_start}
use Rattle.panel.specs.Registers.{loaded, acknowledged, next_column, moved_on, pixel_in}
use Rattle.panel.specs.Lists.{rows_of, box_pixels}

-- the canvas, with a pitch, and its px
abbrev canvas : ℕ → Canvas
canvas pitch = fresh_of (pos 3) (pos 2) pitch

abbrev px : List ℕ
px = 10 ∷ 11 ∷ 12 ∷ 13 ∷ 20 ∷ 21 ∷ 22 ∷ 23 ∷ []

-- columns 1 and 2 of both rows; a box that leaves the canvas; an empty one, far from it
abbrev right : IRect
right = box_of (pos 1) (pos 0) (pos 3) (pos 2)

abbrev wider : IRect
wider = box_of (pos 1) (pos 0) (pos 4) (pos 2)

abbrev far : IRect
far = box_of (pos 9000) (pos 7) (pos 9000) (pos 9)

-- after the box was loaded, and one pixel, two, and all four were taken
abbrev one : Panel
one = moved_on (loaded right)

abbrev two : Panel
two = moved_on one

abbrev four : Panel
four = moved_on (moved_on two)

-- registers of which the flags are given, at the place of the box's first pixel
abbrev flagged : ℕ → Panel
flagged f = row_start f 0 right

pub registers :
    ((loaded right).regs ≡ 0 ∷ 1 ∷ 1 ∷ 0 ∷ 0 ∷ 0 ∷ 2 ∷ 0 ∷ [])
    × (one.regs ≡ 0 ∷ 1 ∷ 2 ∷ 0 ∷ 0 ∷ 0 ∷ 1 ∷ 0 ∷ [])
    × (two.regs ≡ 0 ∷ 1 ∷ 1 ∷ 0 ∷ 1 ∷ 0 ∷ 2 ∷ 0 ∷ [])
    × (four.regs ≡ 0 ∷ 128 ∷ 0 ∷ 0 ∷ 0 ∷ 0 ∷ 0 ∷ 0 ∷ [])
    × (four.held ≡ right)
    × ((acknowledged four).regs ≡ replicate 8 0)
    -- an empty box is held as given
    × (loaded far ≡ record { regs = 0 ∷ 128 ∷ 0 ∷ 0 ∷ 0 ∷ 0 ∷ 0 ∷ 0 ∷ []; held = far })
    -- two bytes, the lower first: 300 columns from column 517 on
    × ((loaded (box_of (pos 517) (pos 0) (pos 817) (pos 1))).regs ≡ 0 ∷ 1 ∷ 5 ∷ 2 ∷ 0 ∷ 0 ∷ 44 ∷ 1 ∷ [])
    -- the pixels, row by row, by the pitch
    × (box_pixels px 4 right ≡ 11 ∷ 12 ∷ 21 ∷ 22 ∷ [])
    × (pixel_in (canvas 4) px one ≡ 12)
unfolding loaded row_start finished moved_on next_column acknowledged column row pixels_left pixel_in box_pixels rows_of empty fresh_of
registers = (refl, refl, refl, refl, refl, refl, refl, refl, refl, refl)

pub numbers :
    (command_number (canvas 4) 8 fresh_panel 1 right ≡ 0)
    × (command_number (canvas 4) 8 fresh_panel 2 right ≡ 20)
    × (command_number (canvas 4) 8 fresh_panel 1 wider ≡ 20)
    × (command_number (canvas 4) 8 fresh_panel 1 far ≡ 0)
    × (flags_number (canvas 4) 8 four 128 ≡ 0)
    × (flags_number (canvas 4) 8 four 129 ≡ 21)
    × (take_number (canvas 4) 8 two ≡ 0)
    × (take_number (canvas 4) 8 four ≡ 22)
    -- 12 comes before 15, 15 before 8, 8 before the step's own number
    × (take_number (canvas 2) 7 (flagged 3) ≡ 12)
    × (take_number (canvas 2) 7 four ≡ 15)
    × (take_number (canvas 4) 7 four ≡ 8)
    -- both flags may be set; the held box must be inside the canvas
    × (take_number (canvas 4) 8 (flagged 129) ≡ 0)
    × (take_number (canvas 4) 8 (row_start 1 0 wider) ≡ 12)
unfolding command_number flags_number take_number panel_number command_ok panel_ok flags_ok transfer_ok place_in ready fresh_panel loaded
    row_start finished moved_on next_column column row pixels_left inside empty no_box px_number pitch_ok pitch_number frame_number side_ok
    range_in in_canvas clip_ok both_zero four_zeros place_ok places_ok frame_ok valid_of fresh_of
numbers = (refl, refl, refl, refl, refl, refl, refl, refl, refl, refl, refl, refl, refl)
