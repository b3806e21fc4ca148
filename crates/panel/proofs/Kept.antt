-- An accepted step leaves registers that are in order (specs/Lists).
--     acknowledged-*        what a flag write leaves as it was
--     number_is             a step's number, by its contract
--     kept, stays           an accepted step leaves registers in order; so does any step that was given such
--     fresh_ok              those of a fresh panel are
-- Assumes nothing.
use Prim.Native.Nat.{ℕ, ◌+◌, ◌-◌, ◌/◌, ◌%◌}
use mathlib.Core.Bool.{Bool, true, false, cond, not, ◌&&◌, ◌||◌}
use mathlib.Core.List.{List, [], ◌∷◌}
use mathlib.Core.Path.{◌≡◌, refl, sym, ◌∙◌}
use native.Mathlib.Omega.{arith}
use borrow.Author.Tests.{eqb-true, eq-eqb}
use lib.Dec.{eqb}
use lib.ListN.{length, get_or, set}
use lib.Seq.{get_or-set_other}
use Rattle.geom.specs.Int.{up}
use Rattle.geom.specs.Box.{empty}
use Rattle.geom.specs.declared.IRect.{IRect}
use Rattle.geom.proofs.Bools.{and_left, and_right, and_both, split}
use Rattle.gfx.specs.declared.Canvas.{Canvas}
use Rattle.panel.specs.declared.Panel.{Panel}
use Rattle.panel.specs.Registers.{command_of, flags_of, column, row, pixels_left, ready, fresh_panel, panel_of, place_in}
use Rattle.panel.specs.Registers.{transfer_ok, flags_ok, panel_ok, command_ok, command_number, flags_number, take_number}
use Rattle.panel.specs.Registers.{columns_in, finished, row_start, loaded, acknowledged, next_column, moved_on}
use Rattle.panel.specs.Lists.{Step, command, flags, takes, number_of, panel_after, Does}
use Rattle.panel.proofs.Places.{column_of, row_of, left_of, Place, in_place, next_place, Inner, row_place, loading}
use Rattle.panel.proofs.Places.{step_open, taking, moves}

-- ---- places

-- a place that was written
ok_at : (c : Canvas) (f x y l : ℕ) (b : IRect) → flags_ok f ≡ true → Inner c b → Place b x y l
    → panel_ok c (panel_of f x y l b) ≡ true
unfolding panel_ok transfer_ok
ok_at c f x y l b k h s =
    let cx = column_of f x y l b (omega arith) in
    let cy = row_of f x y l b (omega arith) in
    let cl = left_of f x y l b (omega arith) in
    let q = panel_of f x y l b in
    let place : place_in b (column q) (row q) (pixels_left q) ≡ true = rw (cx, cy, cl) (in_place b x y l s) in
    rw (k, h.some, h.within, place) (any (ready (panel_of f x y l b)))
  where
    any : (t : Bool) → not t || true ≡ true
    any true = refl
    any false = refl

ok_finished : (c : Canvas) (b : IRect) → panel_ok c (finished b) ≡ true
unfolding panel_ok flags_ok ready finished
ok_finished c b = refl

-- ---- bit 7 cleared

-- bit 0 stays, and no other bit appears
low_bit : (l : List ℕ) → get_or (set l 1 (get_or l 1 0 % 128)) 1 0 % 2 ≡ get_or l 1 0 % 2
low_bit [] = refl
low_bit (x ∷ []) = refl
low_bit (x ∷ y ∷ l) = omega arith

low_bits : (l : List ℕ) → get_or l 1 0 / 2 % 64 ≡ 0 → get_or (set l 1 (get_or l 1 0 % 128)) 1 0 / 2 % 64 ≡ 0
low_bits [] e = e
low_bits (x ∷ []) e = e
low_bits (x ∷ y ∷ l) e = omega arith

-- bytes 2 to 7 stay
module _ (p : Panel) where
  other : (i : ℕ) → (i ≡ 1 → ⊥) → get_or (set p.regs 1 (flags_of p % 128)) i 0 ≡ get_or p.regs i 0
  other i h = get_or-set_other p.regs 1 i (flags_of p % 128) 0 h

  pub acknowledged_ready : ready (acknowledged p) ≡ ready p
  unfolding ready acknowledged
  acknowledged_ready = rw (low_bit p.regs)

  pub acknowledged_column : column (acknowledged p) ≡ column p
  unfolding column acknowledged
  acknowledged_column = rw (other 2 (λ e. omega arith), other 3 (λ e. omega arith))

  pub acknowledged_row : row (acknowledged p) ≡ row p
  unfolding row acknowledged
  acknowledged_row = rw (other 4 (λ e. omega arith), other 5 (λ e. omega arith))

  pub acknowledged_left : pixels_left (acknowledged p) ≡ pixels_left p
  unfolding pixels_left acknowledged
  acknowledged_left = rw (other 6 (λ e. omega arith), other 7 (λ e. omega arith))

  pub acknowledged_held : (acknowledged p).held ≡ p.held
  unfolding acknowledged
  acknowledged_held = refl

  acknowledged_transfer : (c : Canvas) → transfer_ok c (acknowledged p) ≡ transfer_ok c p
  unfolding transfer_ok
  acknowledged_transfer c = rw (acknowledged_column, acknowledged_row, acknowledged_left, acknowledged_held)

  acknowledged_command : command_of (acknowledged p) ≡ command_of p
  unfolding acknowledged
  acknowledged_command = other 0 (λ e. omega arith)

  acknowledged_flags : flags_ok (flags_of p) ≡ true → flags_ok (flags_of (acknowledged p)) ≡ true
  unfolding flags_ok acknowledged
  acknowledged_flags e = eq-eqb _ 0 (low_bits p.regs (eqb-true (flags_of p / 2 % 64) 0 e))

  ok_acknowledged : (c : Canvas) → panel_ok c p ≡ true → panel_ok c (acknowledged p) ≡ true
  unfolding panel_ok
  ok_acknowledged c o =
      let command = eqb (command_of p) 0 in
      let flags = flags_ok (flags_of p) in
      let rest = not (ready p) || transfer_ok c p in
      let both = and_left (command && flags) rest o in
      rw (acknowledged_command, acknowledged_ready, acknowledged_transfer c)
      (and_both (and_both (and_left command flags both) (acknowledged_flags (and_right command flags both)))
      (and_right (command && flags) rest o))

-- ---- steps

ok_row : (c : Canvas) (f y : ℕ) (b : IRect) → flags_ok f ≡ true → Inner c b → Place b (up b.x0) y (columns_in b)
    → panel_ok c (row_start f y b) ≡ true
unfolding row_start
ok_row c f y b k h s = ok_at c f (up b.x0) y (columns_in b) b k h s

ok_next : (c : Canvas) (p : Panel) → flags_ok (flags_of p) ≡ true → Inner c p.held
    → Place p.held (column p + 1) (row p) (pixels_left p - 1) → panel_ok c (next_column p) ≡ true
unfolding next_column
ok_next c p k h s = ok_at c (flags_of p) (column p + 1) (row p) (pixels_left p - 1) p.held k h s

module _ (c : Canvas) (n : ℕ) (p : Panel) where
  ok_loaded : (v : ℕ) (b : IRect) → command_number c n p v b ≡ 0 → panel_ok c (loaded b) ≡ true
  unfolding command_number command_ok loaded flags_ok
  ok_loaded v b e =
      split (empty b) (λ t. panel_ok c (cond t (finished b) (row_start 1 (up b.y0) b)) ≡ true) (λ q. ok_finished c b)
      (λ q. let h = (loading c n p v b e).1 q in
      ok_row c 1 (up b.y0) b refl h (row_place h (up b.y0) (omega arith) h.down))

  pub ok_taken : take_number c n p ≡ 0 → panel_ok c (moved_on p) ≡ true
  ok_taken e =
      let s = (taking c n p e).0.1 in
      moves p s (λ q. panel_ok c q ≡ true) (λ h. ok_next c p s.flags s.inner (next_place s.place h))
      (λ h k. let place = row_place s.inner (row p + 1) (omega (arith, s.place.top)) k in
      ok_row c (flags_of p) (row p + 1) p.held s.flags s.inner place)
      (λ h k. ok_finished c p.held)

  ok_flags : (v : ℕ) → flags_number c n p v ≡ 0 → panel_ok c (acknowledged p) ≡ true
  unfolding flags_number
  ok_flags v e = ok_acknowledged p c (step_open c n p (eqb v 128) 20 e).0.1

-- ---- any step

-- its number and the panel that it moves to, as its contract has them
unfoldable pub number_in : Canvas → ℕ → Panel → Step → ℕ
number_in c n p (command v b r) = command_number c n p v b
number_in c n p (flags v r) = flags_number c n p v
number_in c n p (takes r) = take_number c n p

unfoldable next_panel : Panel → Step → Panel
next_panel p (command v b r) = loaded b
next_panel p (flags v r) = acknowledged p
next_panel p (takes r) = moved_on p

module _ (c : Canvas) (px : List ℕ) (p : Panel) where
  abbrev n : ℕ
  n = length px

  pub number_is : (s : Step) → Does c px p s → number_of s ≡ number_in c n p s
  unfolding Does number_of number_in
  number_is (command v b r) d = rw d
  number_is (flags v r) d = rw d
  number_is (takes r) d = rw d

  panel_is : (s : Step) → Does c px p s → panel_after s ≡ cond (eqb (number_in c n p s) 0) (next_panel p s) p
  unfolding Does panel_after number_in next_panel
  panel_is (command v b r) d = rw d
  panel_is (flags v r) d = rw d
  panel_is (takes r) d = rw d

  ok_next_panel : (s : Step) → number_in c n p s ≡ 0 → panel_ok c (next_panel p s) ≡ true
  unfolding number_in next_panel
  ok_next_panel (command v b r) e = ok_loaded c n p v b e
  ok_next_panel (flags v r) e = ok_flags c n p v e
  ok_next_panel (takes r) e = ok_taken c n p e

  pub kept : (s : Step) → Does c px p s → number_of s ≡ 0 → panel_ok c (panel_after s) ≡ true
  kept s d e =
      let z = sym (number_is s d) ∙ e in
      rw (panel_is s d, eq-eqb (number_in c n p s) 0 z) (ok_next_panel s z)

  pub stays : (s : Step) → Does c px p s → panel_ok c p ≡ true → panel_ok c (panel_after s) ≡ true
  stays s d o =
      rw (panel_is s d)
      (split (eqb (number_in c n p s) 0) (λ t. panel_ok c (cond t (next_panel p s) p) ≡ true)
      (λ e. ok_next_panel s (eqb-true (number_in c n p s) 0 e)) (λ e. o))

pub fresh_ok : (c : Canvas) → panel_ok c fresh_panel ≡ true
unfolding fresh_panel panel_ok flags_ok ready
fresh_ok c = refl
