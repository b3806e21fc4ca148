-- Demand 3, over any format: after an accepted painting and any list of patch calls, px shows the sheet accepted last, with the words past the
-- canvas as they were before the painting, and each call is right. Assumes nothing.
use mathlib.Core.Bool.{Bool, true, false, cond, ◌&&◌, false≢true}
use mathlib.Core.List.{List, [], ◌∷◌}
use mathlib.Core.Path.{◌≡◌, refl, sym, ap, ap₂, ◌∙◌, subst}
use Prim.Native.Nat.{ℕ, ◌+◌, ◌*◌, ◌/◌, ◌%◌, ◌≤◌, ◌<◌}
use native.Mathlib.Omega.{arith}
use native.Mathlib.Nat.{mul_comm, mul-div_cancel}
use lib.Arith.{digits_lt, digits_div, digits_mod}
use lib.IntN.{pos}
use lib.Dec.{eqb, leb, lit≤}
use lib.ListN.{length, get_or, replicate, length-replicate, get_or-replicate, length-append, length-drop}
use lib.Seq.{ext_get_or}
use borrow.Author.Tests.{eqb-true, eqb-false, ne_eqb, leb-true}
use Rattle.redraw.specs.declared.Answer.{Answer}
use Rattle.redraw.specs.declared.Reply.{Reply}
use Rattle.geom.specs.declared.IRect.{IRect}
use Rattle.geom.proofs.Int.{order_z}
use Rattle.geom.specs.Box.{inside, hull}
use Rattle.redraw.specs.Drawing.{Kind, only, pixel_of, painted_in, ground_in}
use Rattle.redraw.specs.Sheet.{Format, Lawful, Sheet, Reading, read, refused, Pair, Change, other, shapes, change_in, reaches, Outcome, refuses, draws, few, too_many, canvas, same_header, draws_unless, lent_number, lent, paint_of, patch_by, patch_of, painting, patching, refusal, answer, pixels, cleared, accepted, fresh}
use Rattle.redraw.specs.Calls.{Shown, Call, last_of, Painted, Patched, Follow, kept_after, Began, Confined, Right, Always}
use Rattle.geom.proofs.Bools.{and_left, and_right, same_test}
use Rattle.geom.proofs.Refusals.{passed, then_open}
use Rattle.geom.proofs.Boxes.{in_of, hull_smallest, out_of_hull}
use Rattle.draw.specs.Frame.{frame_number}
use Rattle.draw.proofs.Frame.{Frame, frame_of}
use Rattle.redraw.proofs.Drawn.{Shows, painted, redrawn, outside_kept, inside_drawn, edited, length_drawn}
use Rattle.redraw.proofs.Items.{none, out_stays, length_ground, word_ground, length_items, word_items}

-- ---- a canvas and its fresh painting, word by word

-- a word past the width lies outside the canvas
pub past_width : {Shape : Type 0} (s : Sheet Shape) (x y : ℕ) → s.w ≤ x → inside (canvas s) (pos x) (pos y) ≡ false
unfolding canvas
past_width s x y k = same_test _ false (λ e. let i = in_of _ (pos x) (pos y) e in absurd (omega (order_z, i.right, k))) (λ e. absurd (false≢true e))

module _ (K : Kind) (s : Sheet K.Shape) where
  pub length_fresh : length (fresh K s) ≡ s.w * s.h
  unfolding fresh
  length_fresh = length_items K s.w s.items (only (canvas s)) _ ∙ length-replicate _ _

  pub word_fresh : (i : ℕ) → i < s.w * s.h → get_or (fresh K s) i 0 ≡ pixel_of K s.items (canvas s) s.ground_pixel (i % s.w) (i / s.w)
  unfolding fresh pixel_of
  word_fresh i h =
      word_items K s.w s.items (only (canvas s)) (replicate (s.w * s.h) s.ground_pixel) i (rw length-replicate h)
      ∙ rw (get_or-replicate (s.w * s.h) i s.ground_pixel 0 h)

  -- the word of the fresh painting at a place of the canvas
  pub fresh_at : (x y : ℕ) → inside (canvas s) (pos x) (pos y) ≡ true
      → get_or (fresh K s) (y * s.w + x) 0 ≡ pixel_of K s.items (canvas s) s.ground_pixel x y
  unfolding canvas
  fresh_at x y e =
      let i = in_of _ (pos x) (pos y) e in
      let hx : x < s.w = omega (order_z, i.right) in
      let hy : y < s.h = omega (order_z, i.bottom) in
      let k : y * s.w + x < s.w * s.h = rw (mul_comm s.w s.h) (digits_lt hy hx) in
      word_fresh (y * s.w + x) k ∙ ap₂ (λ (a b : ℕ). pixel_of K s.items (canvas s) s.ground_pixel a b) (digits_mod y hx) (digits_div y hx)

-- ---- what an accepted outcome says

module _ (F : Format) where
  lent_accepted : (s : Sheet F.kind.Shape) (pitch pl sl : ℕ) (box : IRect) → accepted (lent F s pitch pl sl box) ≡ true
      → (lent F s pitch pl sl box ≡ draws s box) × (lent_number F s pitch pl sl ≡ 0)
  unfolding lent draws_unless accepted
  lent_accepted s pitch pl sl box e = go (eqb (lent_number F s pitch pl sl) 0) refl e
    where
      go : (t : Bool) → eqb (lent_number F s pitch pl sl) 0 ≡ t → accepted (cond t (draws s box) (refuses (lent_number F s pitch pl sl) 0)) ≡ true
          → (cond t (draws s box) (refuses (lent_number F s pitch pl sl) 0) ≡ draws s box) × (lent_number F s pitch pl sl ≡ 0)
      go true z q = (refl, eqb-true _ 0 z)
      go false z q = absurd (false≢true q)

  -- what the number 0 says of what is lent
  pub record Lends (s : Sheet F.kind.Shape) (pitch pl sl : ℕ) : Type 0 where
    pub frame : Frame s.w s.h pitch pl
    pub enough : F.need s.items ≤ sl

  pub lends_of : (s : Sheet F.kind.Shape) (pitch pl sl : ℕ) → lent_number F s pitch pl sl ≡ 0 → Lends s pitch pl sl
  unfolding lent_number
  lends_of s pitch pl sl e =
      let t = then_open (frame_number s.w s.h pitch pl) _ e in
      record {
        frame = frame_of s.w s.h pitch pl t.0;
        enough = leb-true (F.need s.items) sl (passed (leb (F.need s.items) sl) 8 0 t.1).0;
      }

  pub record Paints (sheet : List ℕ) (pitch pl sl : ℕ) : Type 0 where
    pub held : Sheet F.kind.Shape
    pub reads : F.reading sheet ≡ read held
    pub lends : Lends held pitch pl sl
    pub is : painting F sheet pitch pl sl ≡ draws held (canvas held)

  pub paint_accepted : (sheet : List ℕ) (pitch pl sl : ℕ) → accepted (painting F sheet pitch pl sl) ≡ true → Paints sheet pitch pl sl
  unfolding painting accepted paint_of
  paint_accepted sheet pitch pl sl e = go (F.reading sheet) refl e
    where
      go : (r : Reading F.kind.Shape) → F.reading sheet ≡ r → accepted (paint_of F r pitch pl sl) ≡ true → Paints sheet pitch pl sl
      go (refused n k) q a = absurd (false≢true a)
      go (read s) q a =
          let l = lent_accepted s pitch pl sl (canvas s) a in
          record { held = s; reads = q; lends = lends_of s pitch pl sl l.1; is = ap (λ (r : Reading F.kind.Shape). paint_of F r pitch pl sl) q ∙ l.0 }

  pub record Patches (old new : List ℕ) (pitch pl sl : ℕ) : Type 0 where
    pub from : Sheet F.kind.Shape
    pub to : Sheet F.kind.Shape
    pub pairs : List (Pair F.kind.Shape)
    pub reads_from : F.reading old ≡ read from
    pub reads_to : F.reading new ≡ read to
    pub header : same_header from to ≡ true
    pub differ : change_in F (canvas to) from to ≡ shapes pairs
    pub lends : Lends to pitch pl sl
    pub is : patching F old new pitch pl sl ≡ draws to (hull (canvas to) (reaches F.kind.reach pairs))

  module _ (old new : List ℕ) (pitch pl sl : ℕ) where
    by_change : (a b : Sheet F.kind.Shape) → F.reading old ≡ read a → F.reading new ≡ read b → same_header a b ≡ true
        → (c : Change F.kind.Shape) → change_in F (canvas b) a b ≡ c
        → patching F old new pitch pl sl ≡ patch_by F c b pitch pl sl
        → accepted (patch_by F c b pitch pl sl) ≡ true → Patches old new pitch pl sl
    unfolding patch_by accepted too_many
    by_change a b p q h other d is e = absurd (false≢true e)
    by_change a b p q h (shapes l) d is e = go (few l) is e
      where
        go : (t : Bool) → patching F old new pitch pl sl ≡ cond t (lent F b pitch pl sl (hull (canvas b) (reaches F.kind.reach l))) too_many
            → accepted (cond t (lent F b pitch pl sl (hull (canvas b) (reaches F.kind.reach l))) too_many) ≡ true
            → Patches old new pitch pl sl
        go true is e =
            let k = lent_accepted b pitch pl sl (hull (canvas b) (reaches F.kind.reach l)) e in
            record { from = a; to = b; pairs = l; reads_from = p; reads_to = q; header = h; differ = d; lends = lends_of b pitch pl sl k.1; is = is ∙ k.0 }
        go false is e = absurd (false≢true e)

    by_header : (a b : Sheet F.kind.Shape) → F.reading old ≡ read a → F.reading new ≡ read b
        → (t : Bool) → same_header a b ≡ t
        → patching F old new pitch pl sl ≡ cond t (patch_by F (change_in F (canvas b) a b) b pitch pl sl) (refuses 10 0)
        → accepted (cond t (patch_by F (change_in F (canvas b) a b) b pitch pl sl) (refuses 10 0)) ≡ true → Patches old new pitch pl sl
    unfolding accepted
    by_header a b p q true h is e = by_change a b p q h (change_in F (canvas b) a b) refl is e
    by_header a b p q false h is e = absurd (false≢true e)

    by_readings : (r s : Reading F.kind.Shape) → F.reading old ≡ r → F.reading new ≡ s
        → patching F old new pitch pl sl ≡ patch_of F r s pitch pl sl → accepted (patch_of F r s pitch pl sl) ≡ true → Patches old new pitch pl sl
    unfolding accepted patch_of
    by_readings (refused n k) s p q is e = absurd (false≢true e)
    by_readings (read a) (refused n k) p q is e = absurd (false≢true e)
    by_readings (read a) (read b) p q is e = by_header a b p q (same_header a b) refl is e

    pub patch_accepted : accepted (patching F old new pitch pl sl) ≡ true → Patches old new pitch pl sl
    unfolding patching
    patch_accepted e = by_readings (F.reading old) (F.reading new) refl refl refl e

pub read_one : {Shape : Type 0} {r : Reading Shape} {a b : Sheet Shape} → r ≡ read a → r ≡ read b → a ≡ b
read_one p q = cc

drawn_one : {Shape : Type 0} {o : Outcome Shape} {a b : Sheet Shape} {c d : IRect} → o ≡ draws a c → o ≡ draws b d → a ≡ b
drawn_one p q = cc

same_w : {Shape : Type 0} (a b : Sheet Shape) → same_header a b ≡ true → a.w ≡ b.w
unfolding same_header
same_w a b e = eqb-true a.w b.w (and_left (eqb a.w b.w) (eqb a.h b.h) (and_left _ (eqb a.ground_pixel b.ground_pixel) e))

same_h : {Shape : Type 0} (a b : Sheet Shape) → same_header a b ≡ true → a.h ≡ b.h
unfolding same_header
same_h a b e = eqb-true a.h b.h (and_right (eqb a.w b.w) (eqb a.h b.h) (and_left _ (eqb a.ground_pixel b.ground_pixel) e))

same_ground : {Shape : Type 0} (a b : Sheet Shape) → same_header a b ≡ true → a.ground_pixel ≡ b.ground_pixel
unfolding same_header
same_ground a b e = eqb-true a.ground_pixel b.ground_pixel (and_right (eqb a.w b.w && eqb a.h b.h) (eqb a.ground_pixel b.ground_pixel) e)

same_canvas : {Shape : Type 0} (a b : Sheet Shape) → same_header a b ≡ true → canvas a ≡ canvas b
unfolding canvas
same_canvas a b e = rw (same_w a b e, same_h a b e)

pub refused_px : (K : Kind) (pitch : ℕ) (o : Outcome K.Shape) (px : List ℕ) → accepted o ≡ false → pixels K pitch o px ≡ px
unfolding pixels accepted
refused_px K pitch (refuses n k) px e = refl
refused_px K pitch (draws s box) px e = absurd (false≢true (sym e))

pub refused_scratch : {Word : Type 0} (zero_word : Word) (F : Format) (o : Outcome F.kind.Shape) (scratch : List Word) → accepted o ≡ false
    → cleared zero_word F o scratch ≡ scratch
unfolding cleared accepted
refused_scratch zero_word F (refuses n k) scratch e = refl
refused_scratch zero_word F (draws s box) scratch e = absurd (false≢true (sym e))

-- ---- what an accepted call leaves in px: its length, and each of its pixels

module _ (K : Kind) (pitch : ℕ) (s : Sheet K.Shape) (box : IRect) (px : List ℕ) where
  left_length : (n : ℕ) → length px ≡ n → length (pixels K pitch (draws s box) px) ≡ n
  unfolding pixels
  left_length n e = simp (length_items, length_ground, e)

  -- a pixel of value v: outside the box it stays, inside it is that of the items drawn on the ground
  module _ (i : ℕ) (h : i < length px) (v : ℕ) (e : get_or px i 0 ≡ v) where
    grounded : (b : IRect) → i < length (ground_in pitch b s.ground_pixel px)
    grounded b = rw length_ground h

    left_outside : inside box (pos (i % pitch)) (pos (i / pitch)) ≡ false → get_or (pixels K pitch (draws s box) px) i 0 ≡ v
    unfolding pixels
    left_outside o =
        let stays = out_stays K (i % pitch) (i / pitch) s.items (only box) v (record { clips = o; saves = none }) in
        let g = grounded in
        simp (word_items, word_ground, o, e, stays)

    left_inside : inside box (pos (i % pitch)) (pos (i / pitch)) ≡ true
        → get_or (pixels K pitch (draws s box) px) i 0 ≡ pixel_of K s.items box s.ground_pixel (i % pitch) (i / pitch)
    unfolding pixels pixel_of
    left_inside o =
        let g = grounded in
        simp (word_items, word_ground, o, e)

  pub pixels_drawn : pixels K pitch (draws s box) px ≡ painted_in K pitch box s.ground_pixel s.items px
  pixels_drawn =
      ext_get_or 0 _ _ (left_length _ refl ∙ sym (length_drawn K pitch box s.ground_pixel s.items px))
      (λ i k. same_word i (rw (left_length _ refl) at k) (inside box (pos (i % pitch)) (pos (i / pitch))) refl)
    where
      same_word : (i : ℕ) → i < length px → (t : Bool) → inside box (pos (i % pitch)) (pos (i / pitch)) ≡ t
          → get_or (pixels K pitch (draws s box) px) i 0 ≡ get_or (painted_in K pitch box s.ground_pixel s.items px) i 0
      same_word i h true o = left_inside i h _ refl o ∙ sym (inside_drawn K pitch box s.ground_pixel s.items px i h o)
      same_word i h false o = left_outside i h _ refl o ∙ sym (outside_kept K pitch box s.ground_pixel s.items px i h o)

-- ---- lengths are kept

pub length_pixels : (K : Kind) (pitch : ℕ) (o : Outcome K.Shape) (px : List ℕ) → length (pixels K pitch o px) ≡ length px
unfolding pixels
length_pixels K pitch (refuses n k) px = refl
length_pixels K pitch (draws s box) px = left_length K pitch s box px _ refl

module _ {Word : Type 0} (zero_word : Word) (F : Format) where
  pub length_cleared : (o : Outcome F.kind.Shape) (scratch : List Word)
      → ((s : Sheet F.kind.Shape) (box : IRect) → o ≡ draws s box → F.need s.items ≤ length scratch)
      → length (cleared zero_word F o scratch) ≡ length scratch
  unfolding cleared
  length_cleared (refuses n k) scratch h = refl
  length_cleared (draws s box) scratch h =
      let n = h s box refl in
      simp (length-append, length-replicate, length-drop) (omega arith)

  -- what an accepted outcome draws is the new sheet, whose need is lent
  pub patch_enough : (old new : List ℕ) (pitch pl sl : ℕ) (s : Sheet F.kind.Shape) (box : IRect)
      → patching F old new pitch pl sl ≡ draws s box → F.need s.items ≤ sl
  unfolding accepted
  patch_enough old new pitch pl sl s box e =
      let p = patch_accepted F old new pitch pl sl (ap accepted e) in
      let q : p.to ≡ s = drawn_one p.is e in
      rw (← q) p.lends.enough

  pub paint_enough : (sheet : List ℕ) (pitch pl sl : ℕ) (s : Sheet F.kind.Shape) (box : IRect)
      → painting F sheet pitch pl sl ≡ draws s box → F.need s.items ≤ sl
  unfolding accepted
  paint_enough sheet pitch pl sl s box e =
      let p = paint_accepted F sheet pitch pl sl (ap accepted e) in
      let q : p.held ≡ s = drawn_one p.is e in
      rw (← q) p.lends.enough

-- ---- number 0 is acceptance, where no reading is refused by 0

pub Numbered : {Shape : Type 0} → Outcome Shape → Type 0
Numbered (refuses n k) = 1 ≤ n
Numbered (draws s box) = Unit {0}

-- a number of 0 is returned exactly where the outcome is accepted
pub number_tells : {Shape : Type 0} (o : Outcome Shape) → Numbered o → accepted o ≡ eqb (answer o).number 0
unfolding Numbered answer refusal accepted
number_tells (refuses n k) h = sym (ne_eqb n 0 (λ e. omega arith))
number_tells (draws s box) h = refl

pub zero_accepted : {Shape : Type 0} (o : Outcome Shape) → Numbered o → (answer o).number ≡ 0 → accepted o ≡ true
unfolding Numbered answer refusal accepted
zero_accepted (refuses n k) h e = absurd (omega arith)
zero_accepted (draws s box) h e = refl

pub other_refused : {Shape : Type 0} (o : Outcome Shape) → ((answer o).number ≡ 0 → ⊥) → accepted o ≡ false
unfolding answer refusal accepted
other_refused (refuses n k) h = refl
other_refused (draws s box) h = absurd (h refl)

pub accepted_zero : {Shape : Type 0} (o : Outcome Shape) → accepted o ≡ true → (answer o).number ≡ 0
unfolding answer accepted
accepted_zero (refuses n k) e = absurd (false≢true e)
accepted_zero (draws s box) e = refl

module _ (F : Format) (law : Lawful F) where
  lent_numbered : (s : Sheet F.kind.Shape) (pitch pl sl : ℕ) (box : IRect) → Numbered (lent F s pitch pl sl box)
  unfolding lent draws_unless Numbered
  lent_numbered s pitch pl sl box = go (eqb (lent_number F s pitch pl sl) 0) refl
    where
      go : (t : Bool) → eqb (lent_number F s pitch pl sl) 0 ≡ t → Numbered (cond t (draws s box) (refuses (lent_number F s pitch pl sl) 0))
      go true z = tt
      go false z = let n = eqb-false (lent_number F s pitch pl sl) 0 z in omega arith

  pub paint_numbered : (sheet : List ℕ) (pitch pl sl : ℕ) → Numbered (painting F sheet pitch pl sl)
  unfolding painting paint_of Numbered
  paint_numbered sheet pitch pl sl = go (F.reading sheet) refl
    where
      go : (r : Reading F.kind.Shape) → F.reading sheet ≡ r → Numbered (paint_of F r pitch pl sl)
      go (refused n k) q = law.numbered sheet n k q
      go (read s) q = lent_numbered s pitch pl sl (canvas s)

  change_numbered : (c : Change F.kind.Shape) (s : Sheet F.kind.Shape) (pitch pl sl : ℕ) → Numbered (patch_by F c s pitch pl sl)
  unfolding patch_by Numbered too_many
  change_numbered other s pitch pl sl = lit≤ tt
  change_numbered (shapes l) s pitch pl sl = go (few l)
    where
      go : (t : Bool) → Numbered (cond t (lent F s pitch pl sl (hull (canvas s) (reaches F.kind.reach l))) too_many)
      go true = lent_numbered s pitch pl sl _
      go false = lit≤ tt

  pub patch_numbered : (old new : List ℕ) (pitch pl sl : ℕ) → Numbered (patching F old new pitch pl sl)
  unfolding patching patch_of Numbered
  patch_numbered old new pitch pl sl = go (F.reading old) (F.reading new) refl refl
    where
      go : (r t : Reading F.kind.Shape) → F.reading old ≡ r → F.reading new ≡ t → Numbered (patch_of F r t pitch pl sl)
      go (refused n k) t p q = law.numbered old n k p
      go (read a) (refused n k) p q = law.numbered new n k q
      go (read a) (read b) p q = by_header (same_header a b)
        where
          by_header : (t : Bool) → Numbered (cond t (patch_by F (change_in F (canvas b) a b) b pitch pl sl) (refuses 10 0))
          by_header true = change_numbered (change_in F (canvas b) a b) b pitch pl sl
          by_header false = lit≤ tt

-- ---- one call, and a list of calls

-- rows of two lengths, as many, hold as many words only where they are as long
pub same_pitch : (p q h : ℕ) → p * h ≡ q * h → 1 ≤ h → p ≡ q
same_pitch p q h e t = sym (mul-div_cancel p t) ∙ ap (λ (n : ℕ). n / h) e ∙ mul-div_cancel q t

module _ {Word : Type 0} (zero_word : Word) (F : Format) (law : Lawful F) where
  -- px that shows the items shows the sheet, and the other way
  words : (s : Sheet F.kind.Shape) (pitch : ℕ) (px : List ℕ) → Shows F.kind pitch (canvas s) s.ground_pixel s.items px
      → (i : ℕ) → i < length px → inside (canvas s) (pos (i % pitch)) (pos (i / pitch)) ≡ true
      → get_or px i 0 ≡ get_or (fresh F.kind s) (i / pitch * s.w + i % pitch) 0
  words s pitch px h i k f = h.shows i k f ∙ sym (fresh_at F.kind s (i % pitch) (i / pitch) f)

  shows_of : (pitch : ℕ) (before sheet px : List ℕ) (t : Shown F pitch before sheet px)
      → Shows F.kind pitch (canvas t.held) t.held.ground_pixel t.held.items px
  shows_of pitch before sheet px t =
      record { shows = λ i k f. t.fresh_words i k f ∙ fresh_at F.kind t.held (i % pitch) (i / pitch) f }

  -- an accepted painting shows its sheet, and leaves the words past the canvas
  pub shown_first : (sheet : List ℕ) (pitch : ℕ) (px : List ℕ) (scratch : List Word) (a : Reply) (px' : List ℕ) (scratch' : List Word)
      → Painted zero_word F sheet pitch px scratch a px' scratch'
      → accepted (painting F sheet pitch (length px) (length scratch)) ≡ true → Shown F pitch px sheet px'
  shown_first sheet pitch px scratch a px' scratch' c e =
      let p = paint_accepted F sheet pitch (length px) (length scratch) e in
      let s = p.held in
      let d : px' ≡ painted_in F.kind pitch (canvas s) s.ground_pixel s.items px =
      c.paints ∙ ap (λ (o : Outcome F.kind.Shape). pixels F.kind pitch o px) p.is
      ∙ pixels_drawn F.kind pitch s (canvas s) px in
      let n : length px' ≡ length px = ap length d ∙ length_drawn F.kind pitch (canvas s) s.ground_pixel s.items px in
      record {
        held = s;
        reads = p.reads;
        room = p.lends.frame.rows.room;
        long = n ∙ p.lends.frame.long;
        fresh_words = words s pitch px' (rw d (painted F.kind pitch (canvas s) s.ground_pixel s.items px));
        margin = λ i k f. rw d (outside_kept F.kind pitch (canvas s) s.ground_pixel s.items px i (rw n at k) f);
      }

  module _ (pitch : ℕ) (before kept px : List ℕ) (c : Call Word)
      (did : Patched zero_word F kept c.sheet c.pitch px c.scratch c.answered c.px_left c.scratch_left) where
    abbrev Accepted : Type 0
    Accepted = Patches F kept c.sheet c.pitch (length px) (length c.scratch)

    -- what an accepted call left in px
    drew : (p : Accepted)
        → c.px_left ≡ painted_in F.kind c.pitch (hull (canvas p.to) (reaches F.kind.reach p.pairs)) p.to.ground_pixel p.to.items px
    drew p =
        did.paints ∙ ap (λ (o : Outcome F.kind.Shape). pixels F.kind c.pitch o px) p.is
        ∙ pixels_drawn F.kind c.pitch p.to _ px

    area_is : (p : Accepted) → c.answered.answer.area ≡ hull (canvas p.to) (reaches F.kind.reach p.pairs)
    unfolding answer
    area_is p = ap (λ (a : Answer). a.area) (did.answers ∙ ap answer p.is)

    -- a call with another pitch is refused, since px keeps its length
    pitch_kept : (p : Accepted) (s : Shown F pitch before kept px) → c.pitch ≡ pitch
    pitch_kept p s =
        let q = read_one s.reads p.reads_from in
        let h : s.held.h ≡ p.to.h = ap (λ (t : Sheet F.kind.Shape). t.h) q ∙ same_h p.from p.to p.header in
        same_pitch c.pitch pitch p.to.h (sym p.lends.frame.long ∙ s.long ∙ ap (λ (n : ℕ). pitch * n) h) (law.tall c.sheet p.to p.reads_to)

    -- on pixels that show the old sheet, an accepted call shows the new one
    pub shown_new : Accepted → Shown F pitch before kept px → Shown F pitch before c.sheet c.px_left
    shown_new p s = record {
      held = new;
      reads = p.reads_to;
      room = rw (← pitch_kept p s) p.lends.frame.rows.room;
      long = n ∙ s.long ∙ ap (λ (k : ℕ). pitch * k) (ap (λ (t : Sheet F.kind.Shape). t.h) held_is ∙ same_h p.from new p.header);
      fresh_words = words new pitch c.px_left (rw d (redrawn F.kind pitch (canvas new) box new.ground_pixel p.from.items new.items p.pairs px
          (edited F.same law.sound p.from.items new.items (only (canvas new)) p.pairs p.differ)
          (hull_smallest (canvas new) (reaches F.kind.reach p.pairs)).around shows_old));
      margin = λ i k f. rw d (outside_kept F.kind pitch box new.ground_pixel new.items px i (rw n at k) (out_of_hull (canvas new) (reaches F.kind.reach p.pairs) _ _ f))
          ∙ s.margin i (rw n at k) (rw canvas_held f);
    }
      where
        new : Sheet F.kind.Shape
        new = p.to

        box : IRect
        box = hull (canvas p.to) (reaches F.kind.reach p.pairs)

        held_is : s.held ≡ p.from
        held_is = read_one s.reads p.reads_from

        canvas_held : canvas s.held ≡ canvas p.to
        canvas_held = ap (λ (t : Sheet F.kind.Shape). canvas t) held_is ∙ same_canvas p.from p.to p.header

        d : c.px_left ≡ painted_in F.kind pitch box p.to.ground_pixel p.to.items px
        d = drew p ∙ ap (λ (k : ℕ). painted_in F.kind k box p.to.ground_pixel p.to.items px) (pitch_kept p s)

        n : length c.px_left ≡ length px
        n = ap length d ∙ length_drawn F.kind pitch box p.to.ground_pixel p.to.items px

        shows_held : Shows F.kind pitch (canvas p.from) p.from.ground_pixel p.from.items px
        shows_held = subst (λ (t : Sheet F.kind.Shape). Shows F.kind pitch (canvas t) t.ground_pixel t.items px) held_is (shows_of pitch before kept px s)

        shows_old : Shows F.kind pitch (canvas p.to) p.to.ground_pixel p.from.items px
        shows_old = rw (← same_canvas p.from p.to p.header, ← same_ground p.from p.to p.header) shows_held

    pub confined : Accepted → Confined F kept px c
    confined p = record {
      old = p.from;
      new = p.to;
      pairs = p.pairs;
      reads_old = p.reads_from;
      reads_new = p.reads_to;
      differ = p.differ;
      smallest = rw (area_is p) (hull_smallest (canvas p.to) (reaches F.kind.reach p.pairs));
      outside = λ i h o. rw (drew p) (outside_kept F.kind c.pitch _ p.to.ground_pixel p.to.items px i h (rw (area_is p) at o));
    }

    -- the model's outcome
    abbrev o : Outcome F.kind.Shape
    o = patching F kept c.sheet c.pitch (length px) (length c.scratch)

    numbered : accepted o ≡ eqb c.answered.answer.number 0
    numbered =
        number_tells o (patch_numbered F law kept c.sheet c.pitch (length px) (length c.scratch))
        ∙ ap (λ (a : Answer). eqb a.number 0) (sym did.answers)

    pub right : Shown F pitch before kept px → Right F pitch kept px c o
    right s = record {
      numbered = numbered;
      same_pitch = λ e. pitch_kept (patch_accepted F kept c.sheet c.pitch (length px) (length c.scratch) e) s;
      answers = did.answers;
      steps = did.steps;
      grounds = did.grounds;
      confined = λ e. confined (patch_accepted F kept c.sheet c.pitch (length px) (length c.scratch) e);
      unaltered = λ e. (did.paints ∙ refused_px F.kind c.pitch o px e, did.clears ∙ refused_scratch zero_word F o c.scratch e);
    }

    -- the sheet that the model keeps is the one that a caller knows to be accepted last
    pub last_kept : last_of c.answered.answer.number c.sheet kept ≡ kept_after F kept c.sheet c.pitch (length px) (length c.scratch)
    unfolding last_of kept_after
    last_kept = rw numbered

    pub shown_after : Shown F pitch before kept px → Shown F pitch before (kept_after F kept c.sheet c.pitch (length px) (length c.scratch)) c.px_left
    unfolding kept_after
    shown_after s = go (accepted o) refl
      where
        go : (t : Bool) → accepted o ≡ t → Shown F pitch before (cond t c.sheet kept) c.px_left
        go true e = shown_new (patch_accepted F kept c.sheet c.pitch (length px) (length c.scratch) e) s
        go false e = rw (did.paints ∙ refused_px F.kind c.pitch o px e) s

  pub always : (pitch : ℕ) (before kept px : List ℕ) (cs : List (Call Word)) → Shown F pitch before kept px → Follow zero_word F kept px cs
      → Always F pitch before kept px cs
  unfolding Follow Always
  always pitch before kept px [] s f = s
  always pitch before kept px (c ∷ cs) s f = (
    s,
    right pitch before kept px c f.0 s,
    always pitch before (kept_after F kept c.sheet c.pitch (length px) (length c.scratch)) c.px_left cs (shown_after pitch before kept px c f.0 s) (rw (← last_kept pitch before kept px c f.0) f.1),
  )

  -- DEMAND 3
  pub demand_3 : (sheet : List ℕ) (pitch : ℕ) (px : List ℕ) (scratch : List Word) (a : Reply) (px' : List ℕ) (scratch' : List Word)
      → Painted zero_word F sheet pitch px scratch a px' scratch'
      → (accepted (painting F sheet pitch (length px) (length scratch)) ≡ eqb a.answer.number 0)
      × (a.answer.number ≡ 0 → (cs : List (Call Word)) → Follow zero_word F sheet px' cs → Began F sheet a × Always F pitch px sheet px' cs)
  unfolding answer
  demand_3 sheet pitch px scratch a px' scratch' p = (
    number_tells o (paint_numbered F law sheet pitch (length px) (length scratch)) ∙ ap (λ (b : Answer). eqb b.number 0) (sym p.answers),
    λ z cs f.
        let e = zero_accepted o (paint_numbered F law sheet pitch (length px) (length scratch)) (ap (λ (b : Answer). b.number) (sym p.answers) ∙ z) in
        let q = paint_accepted F sheet pitch (length px) (length scratch) e in (
          record { held = q.held; reads = q.reads; answers = p.answers ∙ ap answer q.is },
          always pitch px sheet px' cs (shown_first sheet pitch px scratch a px' scratch' p e) f,
        ),
  )
    where
      o : Outcome F.kind.Shape
      o = painting F sheet pitch (length px) (length scratch)
