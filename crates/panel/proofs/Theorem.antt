-- What accepted takes hand over is the box, row by row (specs/Lists): at every place of a list, what was handed over and then
-- what remains is the box. Assumes nothing.
use Prim.Native.Nat.{ℕ, suc, ◌+◌, ◌-◌, ◌*◌, ◌%◌, ◌≤◌, ◌<◌}
use mathlib.Core.Bool.{Bool, true, false, cond, false≢true}
use mathlib.Core.List.{List, [], ◌∷◌, ◌++◌, append-nil}
use mathlib.Core.Path.{◌≡◌, refl, sym, ap, ◌∙◌}
use native.Mathlib.Omega.{arith}
use borrow.Author.Tests.{eqb-true, eq-eqb, lt-ltb, le-ltb}
use lib.Dec.{ltb, eqb}
use lib.ListN.{length, take, length-append}
use lib.Seq.{take-append_seam, append_snoc}
use Rattle.geom.specs.Int.{up}
use Rattle.geom.specs.Box.{empty, no_box}
use Rattle.geom.specs.Refusals.{and_then}
use Rattle.geom.specs.declared.IRect.{IRect}
use Rattle.geom.proofs.Bools.{split}
use Rattle.gfx.specs.Calls.{px_number}
use Rattle.gfx.specs.declared.Canvas.{Canvas}
use Rattle.gfx.proofs.Sizes.{Open, open_number}
use Rattle.panel.specs.declared.Panel.{Panel}
use Rattle.panel.specs.declared.Taken.{Taken}
use Rattle.panel.specs.Registers.{flags_of, column, row, pixels_left, ready, fresh_panel, panel_of, panel_ok, panel_number}
use Rattle.panel.specs.Registers.{command_number, flags_number, take_number, columns_in, finished, row_start, loaded}
use Rattle.panel.specs.Registers.{acknowledged, next_column, moved_on, pixel_in, Takes}
use Rattle.panel.specs.Lists.{Step, command, flags, takes, panel_after, Does, Follows, end_of, Transfer, begun}
use Rattle.panel.specs.Lists.{with_pixel, after_step, after_steps, transfer_of, box_pixels, size_of, own_number, Transfers, Panels}
use Rattle.panel.proofs.Places.{column_of, row_of, left_of, Place, next_place, Inner, row_place, Underway, loading}
use Rattle.panel.proofs.Places.{ready_by, not_ready, taking, pixel_inside, moves}
use Rattle.panel.proofs.Remaining.{none_of, no_size, size_of_lem, remaining, remaining_all, remaining_more, remaining_row}
use Rattle.panel.proofs.Remaining.{remaining_last}
use Rattle.panel.proofs.Kept.{acknowledged_ready, acknowledged_column, acknowledged_row, acknowledged_left}
use Rattle.panel.proofs.Kept.{acknowledged_held, ok_taken, number_in, number_is, kept, stays, fresh_ok}

-- with a pixel ready: state and px are not refused, and what remains begins at the place, in the box that is held
record Here (c : Canvas) (px : List ℕ) (p : Panel) (t : Transfer) (rest : List ℕ) : Type 0 where
  lent : Open c (length px)
  box : t.box ≡ p.held
  from : rest ≡ remaining px c.pitch (column p) (row p) (pixels_left p) p.held

-- what was handed over, and then what remains, is the box
record Progress (c : Canvas) (px : List ℕ) (p : Panel) (t : Transfer) : Type 0 where
  rest : List ℕ
  whole : t.pixels ++ rest ≡ box_pixels px c.pitch t.box
  size : length (box_pixels px c.pitch t.box) ≡ size_of t.box
  done : ready p ≡ false → rest ≡ []
  here : ready p ≡ true → Here c px p t rest

module _ (c : Canvas) (px : List ℕ) where
  abbrev n : ℕ
  n = length px

  -- a place that was written, with all that remains from there
  at_place : (f x y l : ℕ) (b : IRect) (t : Transfer) → eqb (f % 2) 1 ≡ true → Open c n → Inner c b → Place b x y l → t.box ≡ b
      → length (box_pixels px c.pitch t.box) ≡ size_of t.box
      → t.pixels ++ remaining px c.pitch x y l b ≡ box_pixels px c.pitch t.box → Progress c px (panel_of f x y l b) t
  at_place f x y l b t k o h s e z g =
      record {
        rest = remaining px c.pitch x y l b;
        whole = g;
        size = z;
        done = λ q. absurd (false≢true (sym q ∙ ready_by (panel_of f x y l b) ∙ k));
        here = λ q. record {
          lent = o;
          box = e;
          from = rw (column_of f x y l b (omega arith), row_of f x y l b (omega arith), left_of f x y l b (omega arith));
        };
      }

  at_row : (f y : ℕ) (b : IRect) (t : Transfer) → eqb (f % 2) 1 ≡ true → Open c n → Inner c b
      → Place b (up b.x0) y (columns_in b) → t.box ≡ b → length (box_pixels px c.pitch t.box) ≡ size_of t.box
      → t.pixels ++ remaining px c.pitch (up b.x0) y (columns_in b) b ≡ box_pixels px c.pitch t.box
      → Progress c px (row_start f y b) t
  unfolding row_start
  at_row f y b t k o h s e z g = at_place f (up b.x0) y (columns_in b) b t k o h s e z g

  -- no pixel is ready
  at_end : (b : IRect) (t : Transfer) → length (box_pixels px c.pitch t.box) ≡ size_of t.box
      → t.pixels ++ [] ≡ box_pixels px c.pitch t.box → Progress c px (finished b) t
  at_end b t z g = record { rest = []; whole = g; size = z; done = λ q. refl; here = λ q. absurd (not_ready b q) }

  -- an empty box was loaded, or none yet
  empty_size : (b : IRect) → empty b ≡ true → length (box_pixels px c.pitch b) ≡ size_of b
  empty_size b q = rw (none_of px c.pitch b q, no_size b q)

  -- ---- a load

  at_load : (p : Panel) (v : ℕ) (b : IRect) → command_number c n p v b ≡ 0 → Progress c px (loaded b) (begun b)
  unfolding loaded
  at_load p v b e =
      split (empty b) (λ t. Progress c px (cond t (finished b) (row_start 1 (up b.y0) b)) (begun b))
      (λ q. at_end b (begun b) (empty_size b q) (sym (none_of px c.pitch b q)))
      (λ q. let o = (loading c n p v b e).0 in
      let h = (loading c n p v b e).1 q in
      let place = row_place h (up b.y0) (omega arith) h.down in
      at_row 1 (up b.y0) b (begun b) refl o h place refl (size_of_lem c px b o h) (remaining_all px c.pitch b h.down))

  -- ---- a flag write

  at_flags : (p : Panel) (t : Transfer) → Progress c px p t → Progress c px (acknowledged p) t
  at_flags p t g =
      record {
        rest = g.rest;
        whole = g.whole;
        size = g.size;
        done = λ q. g.done (sym (acknowledged_ready p) ∙ q);
        here = λ q. let h = g.here (sym (acknowledged_ready p) ∙ q) in record {
          lent = h.lent;
          box = h.box ∙ sym (acknowledged_held p);
          from = rw (acknowledged_column p, acknowledged_row p, acknowledged_left p, acknowledged_held p) h.from;
        };
      }

  -- ---- a take

  module _ (p : Panel) (t : Transfer) (e : take_number c n p ≡ 0) (g : Progress c px p t) where
    abbrev v : ℕ
    v = pixel_in c px p

    abbrev b : IRect
    b = p.held

    abbrev next : Transfer
    next = with_pixel t v

    s : Underway c p
    s = (taking c n p e).0.1

    lit : eqb (flags_of p % 2) 1 ≡ true
    lit = sym (ready_by p) ∙ (taking c n p e).1

    in_px : row p * c.pitch + column p < n
    in_px = pixel_inside c n p e

    came : Here c px p t g.rest
    came = g.here (taking c n p e).1

    -- the pixel, and what remains after it
    one : (tail : List ℕ) → remaining px c.pitch (column p) (row p) (pixels_left p) b ≡ v ∷ tail
        → t.pixels ++ (v ∷ []) ++ tail ≡ box_pixels px c.pitch t.box
    one tail q = append_snoc t.pixels v tail ∙ ap (λ (l : List ℕ). t.pixels ++ l) (sym q ∙ sym came.from) ∙ g.whole

    take_along : 1 < pixels_left p → Progress c px (next_column p) next
    unfolding next_column pixel_in
    take_along h =
        let place = next_place s.place h in
        at_place (flags_of p) (column p + 1) (row p) (pixels_left p - 1) b next lit came.lent s.inner place came.box
        g.size
        (one _ (remaining_more px c.pitch (column p) (row p) (pixels_left p) b in_px (pixels_left p - 1) (omega arith)))

    take_row : pixels_left p ≡ 1 → row p + 1 < up b.y1 → Progress c px (row_start (flags_of p) (row p + 1) b) next
    unfolding pixel_in
    take_row h k =
        let place = row_place s.inner (row p + 1) (omega (arith, s.place.top)) k in
        at_row (flags_of p) (row p + 1) b next lit came.lent s.inner place came.box g.size
        (one _ (remaining_row px c.pitch (column p) (row p) (pixels_left p) b in_px h k))

    take_last : pixels_left p ≡ 1 → up b.y1 ≤ row p + 1 → Progress c px (finished b) next
    unfolding pixel_in
    take_last h k =
        at_end b next g.size (one [] (remaining_last px c.pitch (column p) (row p) (pixels_left p) b in_px h k))

    at_take : Progress c px (moved_on p) next
    at_take = moves p s (λ q. Progress c px q next) take_along take_row take_last

    -- a take after which no pixel is ready finishes the box
    finishes : ready (moved_on p) ≡ false → moved_on p ≡ finished b
    unfolding next_column row_start
    finishes =
        moves p s (λ q. ready q ≡ false → q ≡ finished b)
        (λ h q. absurd (false≢true (sym q ∙ ready_by (next_column p) ∙ lit)))
        (λ h k q. absurd (false≢true (sym q ∙ ready_by (row_start (flags_of p) (row p + 1) b) ∙ lit))) (λ h k q. refl)

  -- ---- a list

  one_step : (p : Panel) (t : Transfer) (s : Step) → Progress c px p t → Does c px p s
      → Progress c px (panel_after s) (after_step t s)
  unfolding Does panel_after after_step
  one_step p t (command v b r) g d = rw d (go (eqb (command_number c n p v b) 0) refl)
    where
      go : (z : Bool) → eqb (command_number c n p v b) 0 ≡ z → Progress c px (cond z (loaded b) p) (cond z (begun b) t)
      go true q = at_load p v b (eqb-true _ 0 q)
      go false q = g
  one_step p t (flags v r) g d = rw d (go (eqb (flags_number c n p v) 0))
    where
      go : (z : Bool) → Progress c px (cond z (acknowledged p) p) t
      go true = at_flags p t g
      go false = g
  one_step p t (takes r) g d = rw d (go (eqb (take_number c n p) 0) refl)
    where
      go : (z : Bool) → eqb (take_number c n p) 0 ≡ z
          → Progress c px (cond z (moved_on p) p) (cond z (with_pixel t (cond z (pixel_in c px p) 0)) t)
      go true q = at_take p t (eqb-true _ 0 q) g
      go false q = g

  all_steps : (p : Panel) (t : Transfer) (ss : List Step) → panel_ok c p ≡ true → Progress c px p t → Follows c px p ss
      → (panel_ok c (end_of p ss) ≡ true) × Progress c px (end_of p ss) (after_steps t ss)
  unfolding Follows end_of after_steps
  all_steps p t [] o g f = (o, g)
  all_steps p t (s ∷ ss) o g f =
      all_steps (panel_after s) (after_step t s) ss (stays c px p s f.0 o) (one_step p t s g f.0) f.1

  from_fresh : Progress c px fresh_panel (begun no_box)
  unfolding fresh_panel ready empty no_box
  from_fresh =
      record {
        rest = [];
        whole = sym (none_of px c.pitch no_box refl);
        size = empty_size no_box refl;
        done = λ q. refl;
        here = λ q. absurd (false≢true q);
      }

  -- ---- what is claimed where a list stands

  module _ (p : Panel) (t : Transfer) (o : panel_ok c p ≡ true) (g : Progress c px p t) where
    ready_number : ready p ≡ true → take_number c n p ≡ 0
    unfolding take_number panel_number
    ready_number q = rw (o, open_number (g.here q).lent, q)

    some_rest : ready p ≡ true → 0 < length g.rest
    some_rest q =
        let h = g.here q in
        let e = ready_number q in
        let s = (taking c n p e).0.1 in
        let k = pixels_left p - 1 in
        let more = remaining_more px c.pitch (column p) (row p) (pixels_left p) p.held (pixel_inside c n p e) k
        (omega (arith, s.place.rest, s.place.upto)) in
        rw (h.from, more) (omega arith)

    total : length t.pixels + length g.rest ≡ size_of t.box
    total = sym (length-append t.pixels g.rest) ∙ ap length g.whole ∙ g.size

    -- a pixel is ready just while fewer were handed over than the box has
    ready_is : ready p ≡ ltb (length t.pixels) (size_of t.box)
    ready_is =
        split (ready p) (λ z. z ≡ ltb (length t.pixels) (size_of t.box))
        (λ q. sym (lt-ltb (length t.pixels) (size_of t.box) (more q)))
        (λ q. sym (le-ltb (length t.pixels) (size_of t.box) (none q)))
      where
        more : ready p ≡ true → length t.pixels < size_of t.box
        more q = omega (arith, total, some_rest q)

        none : ready p ≡ false → size_of t.box ≤ length t.pixels
        none q = let z : length g.rest ≡ 0 = ap length (g.done q) in omega (arith, total, z)

    first_of : t.pixels ≡ take (length t.pixels) (box_pixels px c.pitch t.box)
    first_of = rw (← g.whole) (sym (take-append_seam t.pixels g.rest))

    all_of : length t.pixels ≡ size_of t.box → t.pixels ≡ box_pixels px c.pitch t.box
    all_of e =
        let full : size_of t.box ≤ length t.pixels = omega (arith, e) in
        let q = ready_is ∙ le-ltb (length t.pixels) (size_of t.box) full in
        sym (append-nil t.pixels) ∙ ap (λ (l : List ℕ). t.pixels ++ l) (sym (g.done q)) ∙ g.whole

    numbered : (s : Step) → number_in c n p s ≡ and_then (px_number c n) (own_number c t s)
    unfolding number_in own_number command_number flags_number take_number panel_number
    numbered (command v b r) = rw o
    numbered (flags v r) = rw o
    numbered (takes r) = rw (o, ready_is)

  -- the take that hands over the last pixel
  ends : (p : Panel) (t : Transfer) → Progress c px p t → take_number c n p ≡ 0 → suc (length t.pixels) ≡ size_of t.box
      → moved_on p ≡ finished t.box
  ends p t g e k =
      let v = pixel_in c px p in
      let grown : length (t.pixels ++ (v ∷ [])) ≡ length t.pixels + 1 = length-append t.pixels (v ∷ []) in
      let full : size_of t.box ≤ length (t.pixels ++ (v ∷ [])) = omega (arith, grown, k) in
      let r = ready_is (moved_on p) (with_pixel t v) (ok_taken c n p e) (at_take p t e g) in
      let q = r ∙ le-ltb (length (t.pixels ++ (v ∷ []))) (size_of t.box) full in
      finishes p t e g q ∙ ap finished (sym (g.here (taking c n p e).1).box)

  last_take : (p : Panel) (t : Transfer) → Progress c px p t → (r : Taken) → Takes c px p r → r.number ≡ 0
      → suc (length t.pixels) ≡ size_of t.box → r.panel ≡ finished t.box
  last_take p t g r d e k =
      let z : take_number c n p ≡ 0 = rw d at e in
      rw (d, eq-eqb (take_number c n p) 0 z) (ends p t g z k)

transfers : (c : Canvas) (px : List ℕ) (p : Panel) (t : Transfer) → panel_ok c p ≡ true → Progress c px p t → Transfers c px p t
transfers c px p t o g =
    record {
      handed = first_of c px p t o g;
      all = all_of c px p t o g;
      ordered = o;
      numbers = λ s d. number_is c px p s d ∙ numbered c px p t o g s;
      last = last_take c px p t g;
    }

pub panels : Panels
panels =
    record {
      lists = λ c px ss f. let both = all_steps c px fresh_panel (begun no_box) ss (fresh_ok c) (from_fresh c px) f in
          transfers c px (end_of fresh_panel ss) (transfer_of ss) both.0 both.1;
      kept = kept;
    }
