-- Places in a box, and registers in order.
--     column_of, row_of, left_of    registers that were written are read back
--     place_of, in_place            a place, by naturals
--     inner_of                      a box that is not empty and lies in the canvas, by naturals
--     underway                      what registers in order with a pixel ready tell
--     next_place, row_place         the places that a take moves on to
--     twelve_first                  registers out of order
--     step_open, loading, taking    what an accepted step knows
--     pixel_inside                  the pixel of an accepted take lies in px
--     moves                         the three ways in which a take moves on
-- Assumes nothing.
use Prim.Native.Nat.{ℕ, suc, ◌+◌, ◌-◌, ◌*◌, ◌%◌, ◌≤◌, ◌<◌}
use mathlib.Core.Bool.{Bool, true, false, cond, not, ◌&&◌, ◌||◌, false≢true}
use mathlib.Core.Logic.{⊎_elim}
use mathlib.Core.Path.{◌≡◌, refl, sym, ◌∙◌}
use native.Mathlib.Nat.{mul_comm}
use native.Mathlib.Omega.{arith}
use borrow.Author.Tests.{eqb-true, eq-eqb, ltb-true, ltb-false, lt-ltb, leb-true, le-leb, not-true}
use lib.Arith.{digits_lt}
use lib.Dec.{leb, ltb, eqb}
use lib.IntN.{pos}
use Rattle.geom.specs.Int.{up}
use Rattle.geom.specs.Box.{inside, empty}
use Rattle.geom.specs.Refusals.{unless}
use Rattle.geom.specs.declared.IRect.{IRect}
use Rattle.geom.proofs.Bools.{and_left, and_right, and_both, split}
use Rattle.geom.proofs.Boxes.{Within, in_pixel, within_nat}
use Rattle.geom.proofs.Refusals.{passed, then_open}
use Rattle.encode.proofs.Laid.{two_bytes}
use Rattle.gfx.specs.State.{valid_of, in_canvas, clip_ok}
use Rattle.gfx.specs.Calls.{px_number}
use Rattle.gfx.specs.declared.Canvas.{Canvas}
use Rattle.gfx.proofs.Sizes.{Open, open_of}
use Rattle.gfx.proofs.Valid.{Side, frame, side_of, valid_of_lem, clip_cases}
use Rattle.panel.specs.declared.Panel.{Panel}
use Rattle.panel.specs.Registers.{command_of, flags_of, column, row, pixels_left, ready, panel_of, place_in, transfer_ok}
use Rattle.panel.specs.Registers.{flags_ok, panel_ok, panel_number, step_number, command_ok, command_number, take_number}
use Rattle.panel.specs.Registers.{columns_in, finished, row_start, next_column, moved_on}

-- ---- registers that were written

module _ (f x y l : ℕ) (b : IRect) where
  pub column_of : x < 65536 → column (panel_of f x y l b) ≡ x
  unfolding column
  column_of h = two_bytes x h

  pub row_of : y < 65536 → row (panel_of f x y l b) ≡ y
  unfolding row
  row_of h = two_bytes y h

  pub left_of : l < 65536 → pixels_left (panel_of f x y l b) ≡ l
  unfolding pixels_left
  left_of h = two_bytes l h

-- ---- places

-- column x and row y in a box, with l pixels left
pub record Place (b : IRect) (x y l : ℕ) : Type 0 where
  pub from : up b.x0 ≤ x
  pub upto : x < up b.x1
  pub top : up b.y0 ≤ y
  pub below : y < up b.y1
  pub rest : x + l ≡ up b.x1

module _ (b : IRect) (x y l : ℕ) where
  abbrev across : Bool
  across = leb (up b.x0) x && ltb x (up b.x1)

  abbrev down : Bool
  down = leb (up b.y0) y && ltb y (up b.y1)

  pub place_of : place_in b x y l ≡ true → Place b x y l
  unfolding place_in
  place_of e =
      let place = inside b (pos x) (pos y) in
      let at : (across && down) ≡ true = sym (in_pixel b x y) ∙ and_left place (eqb (x + l) (up b.x1)) e in
      let xs = and_left across down at in
      let ys = and_right across down at in
      record {
        from = leb-true (up b.x0) x (and_left (leb (up b.x0) x) (ltb x (up b.x1)) xs);
        upto = ltb-true x (up b.x1) (and_right (leb (up b.x0) x) (ltb x (up b.x1)) xs);
        top = leb-true (up b.y0) y (and_left (leb (up b.y0) y) (ltb y (up b.y1)) ys);
        below = ltb-true y (up b.y1) (and_right (leb (up b.y0) y) (ltb y (up b.y1)) ys);
        rest = eqb-true (x + l) (up b.x1) (and_right place (eqb (x + l) (up b.x1)) e);
      }

  pub in_place : Place b x y l → place_in b x y l ≡ true
  unfolding place_in
  in_place s =
      let xs = and_both (le-leb (up b.x0) x s.from) (lt-ltb x (up b.x1) s.upto) in
      let ys = and_both (le-leb (up b.y0) y s.top) (lt-ltb y (up b.y1) s.below) in
      and_both (in_pixel b x y ∙ and_both xs ys) (eq-eqb (x + l) (up b.x1) s.rest)

-- the next column of a row
pub next_place : {b : IRect} {x y l : ℕ} → Place b x y l → 1 < l → Place b (x + 1) y (l - 1)
next_place s h =
    record {
      from = omega (arith, s.from);
      upto = omega (arith, s.rest);
      top = s.top;
      below = s.below;
      rest = omega (arith, s.rest);
    }

-- ---- boxes

-- a box that is not empty and lies in the canvas
pub record Inner (c : Canvas) (b : IRect) : Type 0 where
  pub some : empty b ≡ false
  pub within : in_canvas c.w c.h b ≡ true
  pub across : up b.x0 < up b.x1
  pub down : up b.y0 < up b.y1
  pub right : up b.x1 ≤ up c.w
  pub bottom : up b.y1 ≤ up c.h
  pub wide : up c.w ≤ 2048
  pub high : up c.h ≤ 2048

pub inner_of : (c : Canvas) (b : IRect) → valid_of c ≡ true → empty b ≡ false → in_canvas c.w c.h b ≡ true → Inner c b
unfolding clip_ok
inner_of c b v e i =
    ⊎_elim (λ (z : empty b ≡ true). absurd (false≢true (sym e ∙ z)))
    (λ (k : Within (frame c.w c.h) b). sizes (within_nat (up c.w) (up c.h) b (rw (w.is, h.is) at k)))
    (clip_cases c.w c.h b (rw e i))
  where
    w : Side c.w
    w = side_of c.w (valid_of_lem c v).side_w

    h : Side c.h
    h = side_of c.h (valid_of_lem c v).side_h

    sizes : (up b.x0 < up b.x1) × (up b.x1 ≤ up c.w) × (up b.y0 < up b.y1) × (up b.y1 ≤ up c.h)
        → Inner c b
    sizes q =
        record { some = e; within = i; across = q.0; down = q.2; right = q.1; bottom = q.3; wide = w.high; high = h.high }

-- the first column of a row
pub row_place : {c : Canvas} {b : IRect} → Inner c b → (y : ℕ) → up b.y0 ≤ y → y < up b.y1
    → Place b (up b.x0) y (columns_in b)
row_place h y t e = record { from = omega arith; upto = h.across; top = t; below = e; rest = omega (arith, h.across) }

-- ---- registers in order

-- bit 0 is set, and the held box has the place
pub record Underway (c : Canvas) (p : Panel) : Type 0 where
  pub flags : flags_ok (flags_of p) ≡ true
  pub inner : Inner c p.held
  pub place : Place p.held (column p) (row p) (pixels_left p)

pub underway : (c : Canvas) (p : Panel) → valid_of c ≡ true → panel_ok c p ≡ true → ready p ≡ true → Underway c p
unfolding panel_ok transfer_ok
underway c p v o r =
    let some = not (empty p.held) in
    let within = in_canvas c.w c.h p.held in
    let place = place_in p.held (column p) (row p) (pixels_left p) in
    let bytes = eqb (command_of p) 0 && flags_ok (flags_of p) in
    let both = and_left bytes (not (ready p) || transfer_ok c p) o in
    let all : some && within && place ≡ true = rw r at (and_right bytes (not (ready p) || transfer_ok c p) o) in
    let two = and_left (some && within) place all in
    record {
      flags = and_right (eqb (command_of p) 0) (flags_ok (flags_of p)) both;
      inner = inner_of c p.held v (not-true (empty p.held) (and_left some within two)) (and_right some within two);
      place = place_of p.held (column p) (row p) (pixels_left p) (and_right (some && within) place all);
    }

-- a pixel is ready by the flags, and none where a box is finished
pub ready_by : (p : Panel) → ready p ≡ eqb (flags_of p % 2) 1
unfolding ready
ready_by p = refl

pub not_ready : (b : IRect) → ready (finished b) ≡ true → ⊥
unfolding ready finished
not_ready b z = false≢true z

-- ---- what a step's number tells

-- 12 for the registers, whatever state and px are
pub twelve_first : (c : Canvas) (n : ℕ) (p : Panel) → panel_ok c p ≡ false → panel_number c n p ≡ 12
unfolding panel_number
twelve_first c n p e = rw e

-- the state and px are not refused, the registers are in order, and the step's own check holds
pub step_open : (c : Canvas) (n : ℕ) (p : Panel) (t : Bool) (k : ℕ) → step_number c n p t (suc k) ≡ 0
    → (Open c n × (panel_ok c p ≡ true)) × (t ≡ true)
unfolding panel_number
step_open c n p t k e =
    let both = then_open (panel_number c n p) (unless t (suc k) 0) e in
    let q = passed (panel_ok c p) 11 (px_number c n) both.0 in
    ((open_of c n q.1, q.0), (passed t k 0 both.1).0)

pub taking : (c : Canvas) (n : ℕ) (p : Panel) → take_number c n p ≡ 0 → (Open c n × Underway c p) × (ready p ≡ true)
unfolding take_number
taking c n p e =
    let s = step_open c n p (ready p) 21 e in
    ((s.0.0, underway c p s.0.0.valid s.0.1 s.1), s.1)

pub pixel_inside : (c : Canvas) (n : ℕ) (p : Panel) → take_number c n p ≡ 0 → row p * c.pitch + column p < n
pixel_inside c n p e =
    let t = taking c n p e in
    let o = t.0.0 in
    let s = t.0.1 in
    let in_row : column p < c.pitch = omega (arith, s.place.upto, s.inner.right, o.frame.rows.room) in
    let in_rows : row p < up c.h = omega (arith, s.place.below, s.inner.bottom) in
    rw (o.frame.long, mul_comm c.pitch (up c.h)) (digits_lt in_rows in_row)

-- state and px of an accepted load, and its box where it is not empty
pub loading : (c : Canvas) (n : ℕ) (p : Panel) (v : ℕ) (b : IRect) → command_number c n p v b ≡ 0
    → Open c n × (empty b ≡ false → Inner c b)
unfolding command_number command_ok
loading c n p v b e =
    let some = empty b || in_canvas c.w c.h b in
    let s = step_open c n p (eqb v 1 && some) 19 e in
    (s.0.0, λ q. inner_of c b s.0.0.valid q (rw q at (and_right (eqb v 1) some s.1)))

-- ---- a take

-- registers in order, with a pixel ready, after a take: along the row, to the next row, or finished
pub moves : {c : Canvas} (p : Panel) → Underway c p → (P : Panel → Type 0) → (1 < pixels_left p → P (next_column p))
    → (pixels_left p ≡ 1 → row p + 1 < up p.held.y1 → P (row_start (flags_of p) (row p + 1) p.held))
    → (pixels_left p ≡ 1 → up p.held.y1 ≤ row p + 1 → P (finished p.held)) → P (moved_on p)
unfolding moved_on
moves p s P a d f =
    split (ltb 1 (pixels_left p)) (λ t. P (cond t (next_column p) (cond below next (finished p.held))))
    (λ e. a (ltb-true 1 (pixels_left p) e))
    (λ e. split below (λ t. P (cond t next (finished p.held))) (λ r. d (one e) (ltb-true (row p + 1) (up p.held.y1) r))
    (λ r. f (one e) (ltb-false (row p + 1) (up p.held.y1) r)))
  where
    below : Bool
    below = ltb (row p + 1) (up p.held.y1)

    next : Panel
    next = row_start (flags_of p) (row p + 1) p.held

    one : ltb 1 (pixels_left p) ≡ false → pixels_left p ≡ 1
    one e = omega (arith, s.place.rest, s.place.upto, ltb-false 1 (pixels_left p) e)
