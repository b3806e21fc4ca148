-- Lists of writes and takes, and what is claimed of them (document 02, 2026-13). Proved in proofs/Theorem.
use Rattle.std.specs.Prelude.{ℕ, zero, suc, ◌+◌, ◌*◌, true, cond, List, [], ◌∷◌, ◌++◌, ◌≡◌, ltb, eqb, length, take, drop}
use Rattle.geom.specs.Int.{up}
use Rattle.geom.specs.Box.{no_box}
use Rattle.geom.specs.Refusals.{unless, and_then}
use Rattle.geom.specs.declared.IRect.{IRect}
use Rattle.gfx.specs.Calls.{px_number}
use Rattle.gfx.specs.declared.Canvas.{Canvas}
use Rattle.panel.specs.declared.Panel.{Panel}
use Rattle.panel.specs.declared.Stepped.{Stepped}
use Rattle.panel.specs.declared.Taken.{Taken}
use Rattle.panel.specs.Registers.{fresh_panel, panel_ok, command_ok, columns_in, rows_in, finished}
use Rattle.panel.specs.Registers.{WritesCommand, WritesFlags, Takes}

-- ---- a list of steps

-- a write or a take: what it was given besides state, px and panel, and what it returned
pub data Step : Type 0 where
  command : ℕ → IRect → Stepped → Step
  flags : ℕ → Stepped → Step
  takes : Taken → Step

unfoldable pub number_of : Step → ℕ
number_of (command v b r) = r.number
number_of (flags v r) = r.number
number_of (takes r) = r.number

-- the panel that it returned
unfoldable pub panel_after : Step → Panel
panel_after (command v b r) = r.panel
panel_after (flags v r) = r.panel
panel_after (takes r) = r.panel

-- it is a call of the library: by the contract of that call
unfoldable pub Does : Canvas → List ℕ → Panel → Step → Type 0
Does c px p (command v b r) = WritesCommand c px p v b r
Does c px p (flags v r) = WritesFlags c px p v r
Does c px p (takes r) = Takes c px p r

-- each "given the same canvas state and px", and the panel that the one before returned
unfoldable pub Follows : Canvas → List ℕ → Panel → List Step → Type 0
Follows c px p [] = Unit {0}
Follows c px p (s ∷ ss) = Does c px p s × Follows c px (panel_after s) ss

-- the panel after all of them
unfoldable pub end_of : Panel → List Step → Panel
end_of p [] = p
end_of p (s ∷ ss) = end_of (panel_after s) ss

-- ---- what was handed over

-- a transfer: the box of the last accepted load, and the pixels so far, which accepted takes handed over since
pub record Transfer : Type 0 where
  pub box : IRect
  pub pixels : List ℕ

-- a box was loaded, and nothing handed over; before any load the box is four zeros
abbrev pub begun : IRect → Transfer
begun b = record { box = b; pixels = [] }

abbrev pub with_pixel : Transfer → ℕ → Transfer
with_pixel t v = record { box = t.box; pixels = t.pixels ++ (v ∷ []) }

unfoldable pub after_step : Transfer → Step → Transfer
after_step t (command v b r) = cond (eqb r.number 0) (begun b) t
after_step t (flags v r) = t
after_step t (takes r) = cond (eqb r.number 0) (with_pixel t r.value) t

unfoldable pub after_steps : Transfer → List Step → Transfer
after_steps t [] = t
after_steps t (s ∷ ss) = after_steps (after_step t s) ss

abbrev pub transfer_of : List Step → Transfer
transfer_of ss = after_steps (begun no_box) ss

-- w words from column x on, of h rows from row y on
unfoldable pub rows_of : List ℕ → ℕ → ℕ → ℕ → ℕ → ℕ → List ℕ
rows_of px pitch x y w zero = []
rows_of px pitch x y w (suc h) = take w (drop (y * pitch + x) px) ++ rows_of px pitch x (y + 1) w h

-- the pixels of a box, row by row
unfoldable pub box_pixels : List ℕ → ℕ → IRect → List ℕ
box_pixels px pitch b = rows_of px pitch (up b.x0) (up b.y0) (columns_in b) (rows_in b)

-- how many there are
abbrev pub size_of : IRect → ℕ
size_of b = columns_in b * rows_in b

-- ---- the claim

-- the number of a step's only check, where a transfer stands so far: a take is refused once the whole box was handed over
unfoldable pub own_number : Canvas → Transfer → Step → ℕ
own_number c t (command v b r) = unless (command_ok c v b) 20 0
own_number c t (flags v r) = unless (eqb v 128) 21 0
own_number c t (takes r) = unless (ltb (length t.pixels) (size_of t.box)) 22 0

-- where a list of steps stands: its panel, and its transfer so far
pub record Transfers (c : Canvas) (px : List ℕ) (p : Panel) (t : Transfer) : Type 0 where
  -- "the pixels that accepted takes handed over since the last accepted load are the first so many of its box, row by row";
  -- before any load there are none
  pub handed : t.pixels ≡ take (length t.pixels) (box_pixels px c.pitch t.box)
  -- after as many as the box has, all of it was handed over
  pub all : length t.pixels ≡ size_of t.box → t.pixels ≡ box_pixels px c.pitch t.box
  -- the registers are in order
  pub ordered : panel_ok c p ≡ true
  -- so the next step is never refused by 12 for its registers: its number is that of state and px, or of its only check
  pub numbers : (s : Step) → Does c px p s → number_of s ≡ and_then (px_number c (length px)) (own_number c t s)
  -- the take that hands over the last pixel leaves bit 7 set, and the registers as after an empty box
  pub last : (r : Taken) → Takes c px p r → r.number ≡ 0 → suc (length t.pixels) ≡ size_of t.box
      → r.panel ≡ finished t.box

pub record Panels : Type 0 where
  -- "Over every list of such writes and takes from fresh, each given the same canvas state and px"
  pub lists : (c : Canvas) (px : List ℕ) (ss : List Step) → Follows c px fresh_panel ss
      → Transfers c px (end_of fresh_panel ss) (transfer_of ss)
  -- an accepted step leaves registers that are in order, whatever panel it was given
  pub kept : (c : Canvas) (px : List ℕ) (p : Panel) (s : Step) → Does c px p s → number_of s ≡ 0
      → panel_ok c (panel_after s) ≡ true
