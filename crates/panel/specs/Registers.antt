-- The panel's registers (document 02, 2026-13): for each step its number, 0 where it is accepted, and by that number what it
-- returns. Assumes nothing.
use Rattle.std.specs.Prelude.{ℕ, ◌+◌, ◌-◌, ◌*◌, ◌/◌, ◌%◌, Bool, cond, not, ◌&&◌, ◌||◌, List, ◌∷◌, ◌++◌, ◌≡◌, ltb, eqb, pos, length, get_or, set, replicate, Ok, Err}
use Rattle.geom.specs.Int.{up}
use Rattle.geom.specs.Box.{inside, empty, no_box}
use Rattle.std.specs.declared.result.Result.{Result}
use Rattle.geom.specs.Refusals.{code, unless, and_then}
use Rattle.geom.specs.declared.checks.Refusal.{Refusal}
use Rattle.geom.specs.declared.IRect.{IRect}
use Rattle.sheet.specs.Bytes.{byte_at, u16_at}
use Rattle.encode.specs.Encode.{u16}
use Rattle.gfx.specs.State.{in_canvas}
use Rattle.gfx.specs.Calls.{px_number}
use Rattle.gfx.specs.declared.Canvas.{Canvas}
use Rattle.panel.specs.declared.Panel.{Panel}
use Rattle.panel.specs.declared.Stepped.{Stepped}
use Rattle.panel.specs.declared.Taken.{Taken}

-- ---- "eight bytes: 0 command, 1 flags, 2-3 column, 4-5 row, 6-7 pixels left in this row, little-endian"

abbrev pub command_of : Panel → ℕ
command_of p = byte_at p.regs 0

abbrev pub flags_of : Panel → ℕ
flags_of p = byte_at p.regs 1

unfoldable pub column : Panel → ℕ
column p = u16_at p.regs 2

unfoldable pub row : Panel → ℕ
row p = u16_at p.regs 4

unfoldable pub pixels_left : Panel → ℕ
pixels_left p = u16_at p.regs 6

-- "flag bit 0, pixel ready"
unfoldable pub ready : Panel → Bool
ready p = eqb (flags_of p % 2) 1

-- "fresh, all is zero"
unfoldable pub fresh_panel : Panel
fresh_panel = record { regs = replicate 8 0; held = no_box }

-- the bytes of flags, column, row and pixels left: "The command byte reads 0 always"
abbrev pub regs_of : ℕ → ℕ → ℕ → ℕ → List ℕ
regs_of f x y l = 0 ∷ f ∷ (u16 x ++ (u16 y ++ u16 l))

abbrev pub panel_of : ℕ → ℕ → ℕ → ℕ → IRect → Panel
panel_of f x y l b = record { regs = regs_of f x y l; held = b }

-- ---- numbers

-- the place, column x and row y, is inside a box, and l is the rest of its row, the column included
unfoldable pub place_in : IRect → ℕ → ℕ → ℕ → Bool
place_in b x y l = inside b (pos x) (pos y) && eqb (x + l) (up b.x1)

-- what is asked of a transfer under way: the held box is not empty and does not leave the canvas, and it has the place
unfoldable pub transfer_ok : Canvas → Panel → Bool
transfer_ok c p =
    not (empty p.held) && in_canvas c.w c.h p.held && place_in p.held (column p) (row p) (pixels_left p)

-- no bit but 0 and 7 is set
unfoldable pub flags_ok : ℕ → Bool
flags_ok f = eqb (f / 2 % 64) 0

-- "Registers are refused by 12 if the command isn't 0, a flag other than bits 0 and 7 is set, or, with bit 0 set," the transfer
-- is not as above
unfoldable pub panel_ok : Canvas → Panel → Bool
panel_ok c p = eqb (command_of p) 0 && flags_ok (flags_of p) && (not (ready p) || transfer_ok c p)

-- every step on n lent words: 12 for the registers or the state, then 15 and 8
unfoldable pub panel_number : Canvas → ℕ → Panel → ℕ
panel_number c n p = unless (panel_ok c p) 12 (px_number c n)

-- a step's only check, after those
abbrev pub step_number : Canvas → ℕ → Panel → Bool → ℕ → ℕ
step_number c n p ok k = and_then (panel_number c n p) (unless ok k 0)

-- "20 for a command other than 1 or a box neither empty nor inside the canvas"
unfoldable pub command_ok : Canvas → ℕ → IRect → Bool
command_ok c v b = eqb v 1 && (empty b || in_canvas c.w c.h b)

unfoldable pub command_number : Canvas → ℕ → Panel → ℕ → IRect → ℕ
command_number c n p v b = step_number c n p (command_ok c v b) 20

-- "21 for a flag write other than 128"
unfoldable pub flags_number : Canvas → ℕ → Panel → ℕ → ℕ
flags_number c n p v = step_number c n p (eqb v 128) 21

-- "22 for a take while bit 0 is clear"
unfoldable pub take_number : Canvas → ℕ → Panel → ℕ
take_number c n p = step_number c n p (ready p) 22

-- ---- the panel after a step

-- the columns and the rows of a box
abbrev pub columns_in : IRect → ℕ
columns_in b = up b.x1 - up b.x0

abbrev pub rows_in : IRect → ℕ
rows_in b = up b.y1 - up b.y0

-- bytes 2 to 7 zero, and bit 7 alone set: "finished", and after the last take "the interrupt"
unfoldable pub finished : IRect → Panel
finished b = panel_of 128 0 0 0 b

-- the first pixel of row y of a box, with flags f
unfoldable pub row_start : ℕ → ℕ → IRect → Panel
row_start f y b = panel_of f (up b.x0) y (columns_in b) b

-- "clears the flags, loads its corner and width and sets flag bit 0"; "an empty box, held as given, zeroes bytes 2-7 and sets bit
-- 7, finished, instead"
unfoldable pub loaded : IRect → Panel
loaded b = cond (empty b) (finished b) (row_start 1 (up b.y0) b)

-- "Writing 128 to the flags clears bit 7"
unfoldable pub acknowledged : Panel → Panel
acknowledged p = record { regs = set p.regs 1 (flags_of p % 128); held = p.held }

-- one column further
unfoldable pub next_column : Panel → Panel
next_column p = panel_of (flags_of p) (column p + 1) (row p) (pixels_left p - 1) p.held

-- a take "moves on, row by row": along the row, to the next row, or "The last take clears bit 0, zeroes bytes 2-7 and sets bit 7"
unfoldable pub moved_on : Panel → Panel
moved_on p =
    cond (ltb 1 (pixels_left p)) (next_column p)
    (cond (ltb (row p + 1) (up p.held.y1)) (row_start (flags_of p) (row p + 1) p.held) (finished p.held))

-- "the pixel at column and row"
unfoldable pub pixel_in : Canvas → List ℕ → Panel → ℕ
pixel_in c px p = get_or px (row p * c.pitch + column p) 0

-- ---- the contracts: "A refused step alters no register, a refused take hands over 0"

abbrev pub stepped : ℕ → Panel → Panel → Stepped
stepped n given next = record { number = n; panel = cond (eqb n 0) next given }

abbrev pub taken : ℕ → ℕ → Panel → Panel → Taken
taken n v given next = record { number = n; value = cond (eqb n 0) v 0; panel = cond (eqb n 0) next given }

-- the same of a result: what was accepted, beside 0, or the panel as given beside the number of the refusal
abbrev pub stepped_of : Panel → Result Panel Refusal → Stepped
stepped_of given (Ok next) = record { number = 0; panel = next }
stepped_of given (Err r) = record { number = code r; panel = given }

abbrev pub taken_of : Panel → Result (ℕ × Panel) Refusal → Taken
taken_of given (Ok (v, next)) = record { number = 0; value = v; panel = next }
taken_of given (Err r) = record { number = code r; value = 0; panel = given }

abbrev pub WritesCommand : Canvas → List ℕ → Panel → ℕ → IRect → Stepped → Type 0
WritesCommand c px p v b r = r ≡ stepped (command_number c (length px) p v b) p (loaded b)

abbrev pub WritesFlags : Canvas → List ℕ → Panel → ℕ → Stepped → Type 0
WritesFlags c px p v r = r ≡ stepped (flags_number c (length px) p v) p (acknowledged p)

abbrev pub Takes : Canvas → List ℕ → Panel → Taken → Type 0
Takes c px p r = r ≡ taken (take_number c (length px) p) (pixel_in c px p) p (moved_on p)
