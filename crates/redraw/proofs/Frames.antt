-- A canvas within a wider frame, over any format.
--     other_pitch       px in rows of one pitch, lent with another: 15 where it is out of its range, else 8
--     pitch_refused     .. so in a list a patch with another pitch than the painting's is refused
--     painted_margin    painting leaves the words of a row past the width
--     patched_margin    .. and so does patching, refused or not
--     own_width         a pitch that is the width: 8 and 9 by w × h words, and no 15
--     shown_whole       .. px is the fresh painting, word for word
-- Assumes nothing.
use mathlib.Core.Bool.{Bool, true, false, cond}
use mathlib.Core.List.{List}
use mathlib.Core.Path.{◌≡◌, refl, sym, ap, ◌∙◌}
use Prim.Native.Nat.{ℕ, zero, suc, ◌*◌, ◌/◌, ◌%◌, ◌≤◌, ◌<◌}
use native.Mathlib.Nat.{mod-lt, div-lt_iff_lt-mul, mul_comm, zero-mul, div-add-mod'}
use native.Mathlib.Omega.{arith}
use lib.Dec.{eqb, leb}
use lib.IntN.{pos}
use lib.ListN.{length, get_or}
use lib.Seq.{ext_get_or}
use borrow.Author.Tests.{le-leb, ne_eqb}
use Rattle.geom.specs.declared.IRect.{IRect}
use Rattle.geom.specs.Box.{inside}
use Rattle.geom.specs.Refusals.{unless, and_then}
use Rattle.geom.proofs.Int.{order_z}
use Rattle.geom.proofs.Boxes.{inside_of, out_of_hull}
use Rattle.draw.specs.Frame.{pitch_ok, pitch_number, frame_number}
use Rattle.redraw.specs.declared.Answer.{Answer}
use Rattle.redraw.specs.declared.Reply.{Reply}
use Rattle.redraw.specs.Drawing.{Kind}
use Rattle.redraw.specs.Sheet.{Format, Lawful, Sheet, read, reaches, draws, canvas, lent_number, painting, patching, pixels, accepted, fresh}
use Rattle.redraw.specs.Calls.{Shown, Call, Painted, Patched}
use Rattle.redraw.proofs.Drawn.{outside_kept}
use Rattle.redraw.proofs.Lists.{past_width, length_fresh, paint_accepted, patch_accepted, read_one, refused_px, pixels_drawn, zero_accepted, patch_numbered, same_pitch, right}

-- ---- another pitch

module _ (F : Format) (s : Sheet F.kind.Shape) where
  pub other_pitch : (pitch pitch' n sl : ℕ) → (pitch' ≡ pitch → ⊥) → n ≡ pitch * s.h → 1 ≤ s.h
      → lent_number F s pitch' n sl ≡ cond (pitch_ok s.w pitch') 8 15
  unfolding lent_number frame_number pitch_number
  other_pitch pitch pitch' n sl k e t =
      let long : eqb n (pitch' * s.h) ≡ false = ne_eqb n (pitch' * s.h) (λ z. k (same_pitch pitch' pitch s.h (sym z ∙ e) t)) in
      rw long (by (pitch_ok s.w pitch'))
    where
      by : (u : Bool) → and_then (and_then (unless u 15 0) 8) (unless (leb (F.need s.items) sl) 9 0) ≡ cond u 8 15
      by true = refl
      by false = refl

  pub own_width : (n sl : ℕ) → s.w ≤ 4096
      → lent_number F s s.w n sl ≡ unless (eqb n (s.w * s.h)) 8 (unless (leb (F.need s.items) sl) 9 0)
  unfolding lent_number frame_number pitch_number pitch_ok
  own_width n sl k = rw (le-leb s.w s.w (omega arith), le-leb s.w 4096 k) (by (eqb n (s.w * s.h)))
    where
      by : (t : Bool) → and_then (unless t 8 0) (unless (leb (F.need s.items) sl) 9 0) ≡ unless t 8 (unless (leb (F.need s.items) sl) 9 0)
      by true = refl
      by false = refl

module _ {Word : Type 0} (zero_word : Word) (F : Format) (law : Lawful F) where
  pub pitch_refused : (pitch : ℕ) (before kept px : List ℕ) (c : Call Word)
      → Patched zero_word F kept c.sheet c.pitch px c.scratch c.answered c.px_left c.scratch_left
      → Shown F pitch before kept px → (c.pitch ≡ pitch → ⊥) → c.answered.answer.number ≡ 0 → ⊥
  pitch_refused pitch before kept px c did s k z =
      let o = patching F kept c.sheet c.pitch (length px) (length c.scratch) in
      let yes = zero_accepted o (patch_numbered F law kept c.sheet c.pitch (length px) (length c.scratch)) (ap (λ (a : Answer). a.number) (sym did.answers) ∙ z) in
      k ((right zero_word F law pitch before kept px c did s).same_pitch yes)

-- ---- the words past the width

-- what is drawn in a box of the canvas leaves them
drawn_margin : (K : Kind) (pitch : ℕ) (s : Sheet K.Shape) (box : IRect) (px : List ℕ)
    → ((x y : ℕ) → inside (canvas s) (pos x) (pos y) ≡ false → inside box (pos x) (pos y) ≡ false)
    → (i : ℕ) → i < length px → s.w ≤ i % pitch → get_or (pixels K pitch (draws s box) px) i 0 ≡ get_or px i 0
drawn_margin K pitch s box px o i h k =
    ap (λ (qx : List ℕ). get_or qx i 0) (pixels_drawn K pitch s box px)
    ∙ outside_kept K pitch box s.ground_pixel s.items px i h (o (i % pitch) (i / pitch) (past_width s (i % pitch) (i / pitch) k))

module _ {Word : Type 0} (zero_word : Word) (F : Format) (s : Sheet F.kind.Shape) (pitch : ℕ) (px : List ℕ) (scratch : List Word) (a : Reply) (px' : List ℕ) (scratch' : List Word) where
  abbrev Margin : Type 0
  Margin = (i : ℕ) → i < length px → s.w ≤ i % pitch → get_or px' i 0 ≡ get_or px i 0

  pub painted_margin : (sheet : List ℕ) → Painted zero_word F sheet pitch px scratch a px' scratch' → F.reading sheet ≡ read s → Margin
  painted_margin sheet did reads i h k = go (accepted (painting F sheet pitch (length px) (length scratch))) refl
    where
      go : (t : Bool) → accepted (painting F sheet pitch (length px) (length scratch)) ≡ t → get_or px' i 0 ≡ get_or px i 0
      go true e =
          let p = paint_accepted F sheet pitch (length px) (length scratch) e in
          let q : p.held ≡ s = read_one p.reads reads in
          rw (did.paints, p.is) (drawn_margin F.kind pitch p.held (canvas p.held) px (λ x y o. o) i h (rw q k))
      go false e = rw (did.paints ∙ refused_px F.kind pitch _ px e)

  pub patched_margin : (old new : List ℕ) → Patched zero_word F old new pitch px scratch a px' scratch' → F.reading new ≡ read s → Margin
  patched_margin old new did reads i h k = go (accepted (patching F old new pitch (length px) (length scratch))) refl
    where
      go : (t : Bool) → accepted (patching F old new pitch (length px) (length scratch)) ≡ t → get_or px' i 0 ≡ get_or px i 0
      go true e =
          let p = patch_accepted F old new pitch (length px) (length scratch) e in
          let q : p.to ≡ s = read_one p.reads_to reads in
          rw (did.paints, p.is) (drawn_margin F.kind pitch p.to _ px (λ x y o. out_of_hull (canvas p.to) (reaches F.kind.reach p.pairs) (pos x) (pos y) o) i h (rw q k))
      go false e = rw (did.paints ∙ refused_px F.kind pitch _ px e)

-- ---- a pitch that is the width

-- every word of w × h lies in the canvas
on_canvas : {Shape : Type 0} (s : Sheet Shape) (i : ℕ) → i < s.w * s.h → inside (canvas s) (pos (i % s.w)) (pos (i / s.w)) ≡ true
unfolding canvas
on_canvas s i h = go s.w s.h h
  where
    go : (w h : ℕ) → i < w * h → inside (record { x0 = pos 0; y0 = pos 0; x1 = pos w; y1 = pos h }) (pos (i % w)) (pos (i / w)) ≡ true
    go zero h k = absurd (omega (arith, zero-mul h))
    go (suc w) h k =
        let m = mod-lt i {m = suc w} (omega arith) in
        let d = (div-lt_iff_lt-mul {k = suc w} {x = i} {y = h} (omega arith)).1 (rw mul_comm at k) in
        inside_of _ (pos (i % suc w)) (pos (i / suc w)) (omega order_z)

pub shown_whole : (F : Format) (before sheet px : List ℕ) (s : Sheet F.kind.Shape) → F.reading sheet ≡ read s → Shown F s.w before sheet px
    → px ≡ fresh F.kind s
shown_whole F before sheet px s reads t =
    let q : t.held ≡ s = read_one t.reads reads in
    let n : length px ≡ s.w * s.h = t.long ∙ ap (λ (u : Sheet F.kind.Shape). s.w * u.h) q in
    ext_get_or 0 px (fresh F.kind s) (n ∙ sym (length_fresh F.kind s))
    (λ i k. rw q at (t.fresh_words i k (rw q (on_canvas s i (omega (arith, n))))) ∙ ap (λ (j : ℕ). get_or (fresh F.kind s) j 0) (div-add-mod' i s.w))
