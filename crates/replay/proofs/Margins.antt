-- Words of a row past the width are altered by no call. Assumes nothing.
--     kept_left      a call that leaves px where it is refused, and else what keeps them
--     framed_kept    the pixels of a canvas set to one value
--     drawn_kept     a shape under the clip of a valid state
use mathlib.Core.Path.{◌≡◌, refl, ap, ◌∙◌}
use mathlib.Core.Bool.{Bool, true, false, cond}
use mathlib.Core.List.{List}
use mathlib.Core.Logic.{◌⊎◌}
use Prim.Native.Nat.{ℕ, ◌*◌, ◌/◌, ◌%◌, ◌≤◌, ◌<◌}
use native.Mathlib.Nat.{le_refl}
use native.Mathlib.Omega.{arith}
use lib.Dec.{eqb, ltb}
use lib.IntN.{pos}
use lib.Ieee.{Float}
use lib.ListN.{length, get_or}
use borrow.Author.Tests.{eqb-true}
use Rattle.geom.specs.declared.IRect.{IRect}
use Rattle.geom.specs.Int.{up}
use Rattle.geom.specs.Box.{empty}
use Rattle.geom.proofs.Bools.{split}
use Rattle.geom.proofs.Boxes.{Within}
use Rattle.geom.proofs.Refusals.{then_open}
use Rattle.draw.specs.Draw.{drawn}
use Rattle.draw.specs.Areas.{within, clip_to}
use Rattle.draw.specs.Frame.{framed}
use Rattle.draw.specs.Parts.{reach_all, ink_all}
use Rattle.draw.proofs.Onto.{length_onto}
use Rattle.draw.proofs.Rows.{within_above}
use Rattle.draw.proofs.Clips.{in_clip, clip_fits, length_shape, shape_at}
use Rattle.draw.proofs.Frame.{framed_margin}
use Rattle.gfx.specs.declared.Canvas.{Canvas}
use Rattle.gfx.specs.State.{valid_of}
use Rattle.gfx.specs.Calls.{and_then, left, same_size, resized_px, raised, px_number}
use Rattle.gfx.specs.Points.{points_number}
use Rattle.gfx.proofs.Sizes.{open_of, px_open, shape_open}
use Rattle.gfx.proofs.Coords.{points_open}
use Rattle.gfx.proofs.Valid.{side_of, valid_of_lem, clip_cases, frame}
use Rattle.paints.specs.Paints.{paint_ok}
use Rattle.fill.specs.Fill.{fill_reach, fill_ink}
use Rattle.line.specs.Polylines.{chain_of}
use Rattle.line.proofs.Joints.{polyline_drawn}
use Rattle.poly.specs.Poly.{poly_number, poly_reach, poly_ink}
use Rattle.sheet.specs.Check.{width_of}
use Rattle.redraw.specs.declared.Reply.{Reply}
use Rattle.redraw.specs.Sheet.{Sheet, painting, patching, accepted}
use Rattle.redraw.specs.Calls.{Painted, Patched}
use Rattle.redraw.proofs.Lists.{paint_accepted, patch_accepted, refused_px, length_pixels}
use Rattle.redraw.proofs.Frames.{painted_margin, patched_margin}
use Rattle.items.specs.Format.{kind, format, zero_word}
use Rattle.items.proofs.Readings.{read_is}
use Rattle.maldjupp.specs.declared.brush.Brush.{Brush}
use Rattle.maldjupp.specs.Brushes.{paint_of, brush_number, points_brush_number}
use Rattle.maldjupp.specs.Skips.{skip_number}
use Rattle.replay.specs.Margin.{Kept, Margin}

kept_same : {pitch w : ℕ} {px px' : List ℕ} → px' ≡ px → Kept pitch w px px'
kept_same e = record { long = ap length e; past = λ i h k. ap (λ (qx : List ℕ). get_or qx i 0) e }

kept_left : {pitch w : ℕ} (n : ℕ) (px next : List ℕ) {px' : List ℕ} → px' ≡ left n px next → (n ≡ 0 → Kept pitch w px next) → Kept pitch w px px'
unfolding left
kept_left {pitch} {w} n px next e k =
    rw e (split (eqb n 0) (λ t. Kept pitch w px (cond t next px)) (λ z. k (eqb-true n 0 z)) (λ z. kept_same refl))

framed_kept : (pitch w v : ℕ) (px : List ℕ) → Kept pitch w px (framed pitch w v px)
unfolding framed
framed_kept pitch w v px =
    record { long = length_onto (λ i. ltb (i % pitch) w) (λ i p. v) px; past = λ i h k. framed_margin pitch w v px i h k }

-- what the clip of a valid state lets through has no column past the width
clip_right : (c : Canvas) (reach : IRect) → valid_of c ≡ true → (clip_to reach c.clip).x1 ≤ up c.w
clip_right c reach e =
    let v = valid_of_lem c e in
    let w = side_of c.w v.side_w in
    let h = side_of c.h v.side_h in
    let k : (empty c.clip ≡ true) ⊎ Within (frame (pos (up c.w)) (pos (up c.h))) c.clip =
    rw (w.is, h.is) at (clip_cases c.w c.h c.clip v.clip) in
    (clip_fits (up c.w) (up c.w) (up c.h) (up c.h * up c.w) reach c.clip k (le_refl (up c.w)) w.high h.high (le_refl (up c.h * up c.w))).right

drawn_kept : (c : Canvas) (reach : IRect) (ink : ℕ → ℕ → ℕ → ℕ) (px : List ℕ) → valid_of c ≡ true
    → Kept c.pitch (up c.w) px (drawn c.pitch c.clip reach ink px)
drawn_kept c reach ink px e = record { long = length_shape c.pitch c.clip reach ink px; past = past }
  where
    past : (i : ℕ) → i < length px → up c.w ≤ i % c.pitch → get_or (drawn c.pitch c.clip reach ink px) i 0 ≡ get_or px i 0
    past i h k =
        let b = clip_to reach c.clip in
        let out : within b.x0 b.x1 (i % c.pitch) ≡ false = within_above b.x0 b.x1 (i % c.pitch) (omega (arith, clip_right c reach e, k)) in
        shape_at c.pitch c.clip reach ink px i h ∙ rw (in_clip reach c.clip (i % c.pitch) (i / c.pitch), out)

poly_valid : (c : Canvas) (n : ℕ) (pts : List Float) (paint : _) (words : ℕ) → poly_number c n pts paint words ≡ 0 → valid_of c ≡ true
unfolding poly_number
poly_valid c n pts paint words e = (points_open c n pts (paint_ok paint) (then_open (points_number c n pts (paint_ok paint)) _ e).0).canvas.valid

-- a number that is 0 after that of state and px
px_valid : (c : Canvas) (n rest : ℕ) → and_then (px_number c n) rest ≡ 0 → valid_of c ≡ true
px_valid c n rest e = (px_open c n rest e).0.valid

brush_valid : (c : Canvas) (n : ℕ) (b : Brush) (ok : Bool) → brush_number c n b ok ≡ 0 → valid_of c ≡ true
unfolding brush_number
brush_valid c n b ok e = px_valid c n _ e

points_brush_valid : (c : Canvas) (n : ℕ) (pts : List Float) (b : Brush) (words : ℕ) → points_brush_number c n pts b words ≡ 0 → valid_of c ≡ true
unfolding points_brush_number
points_brush_valid c n pts b words e = px_valid c n _ e

skip_valid : (c : Canvas) (n skip : ℕ) (ok : Bool) → skip_number c n skip ok ≡ 0 → valid_of c ≡ true
unfolding skip_number
skip_valid c n skip ok e = px_valid c n _ e

module _ (sheet : List ℕ) (pitch : ℕ) (px : List ℕ) (scratch : List Float) (a : Reply) (px' : List ℕ) (scratch' : List Float) where
  painted_kept : Painted zero_word format sheet pitch px scratch a px' scratch' → Kept pitch (width_of sheet) px px'
  painted_kept did = go (accepted (painting format sheet pitch (length px) (length scratch))) refl
    where
      go : (t : Bool) → accepted (painting format sheet pitch (length px) (length scratch)) ≡ t → Kept pitch (width_of sheet) px px'
      go true e =
          let p = paint_accepted format sheet pitch (length px) (length scratch) e in
          let w : p.held.w ≡ width_of sheet = ap (λ (s : Sheet (List ℕ)). s.w) (read_is sheet p.held p.reads).1 in
          record {
            long = ap length did.paints ∙ length_pixels kind pitch _ px;
            past = λ i h k. painted_margin zero_word format p.held pitch px scratch a px' scratch' sheet did p.reads i h (rw w k);
          }
      go false e = kept_same (did.paints ∙ refused_px kind pitch _ px e)

  patched_kept : (old : List ℕ) → Patched zero_word format old sheet pitch px scratch a px' scratch' → Kept pitch (width_of sheet) px px'
  patched_kept old did = go (accepted (patching format old sheet pitch (length px) (length scratch))) refl
    where
      go : (t : Bool) → accepted (patching format old sheet pitch (length px) (length scratch)) ≡ t → Kept pitch (width_of sheet) px px'
      go true e =
          let p = patch_accepted format old sheet pitch (length px) (length scratch) e in
          let w : p.to.w ≡ width_of sheet = ap (λ (s : Sheet (List ℕ)). s.w) (read_is sheet p.to p.reads_to).1 in
          record {
            long = ap length did.paints ∙ length_pixels kind pitch _ px;
            past = λ i h k. patched_margin zero_word format p.to pitch px scratch a px' scratch' old sheet did p.reads_to i h (rw w k);
          }
      go false e = kept_same (did.paints ∙ refused_px kind pitch _ px e)

resized_kept : (c : Canvas) (w h : _) (px : List ℕ) → Kept c.pitch (up (raised w)) px (resized_px c w h px)
unfolding resized_px
resized_kept c w h px =
    split (same_size c w h) (λ t. Kept c.pitch (up (raised w)) px (cond t px (framed c.pitch (up (raised w)) 0 px))) (λ e. kept_same refl)
    (λ e. framed_kept c.pitch (up (raised w)) 0 px)

pub margin : Margin
margin =
    record {
      new = λ w h pitch px r px' d. kept_left _ px _ d.paints (λ z. framed_kept pitch (up (raised w)) 0 px);
      resize = λ c w h px r px' d. kept_left _ px _ d.paints (λ z. resized_kept c w h px);
      clear = λ c v px r px' d. kept_left _ px _ d.paints (λ z. framed_kept c.pitch (up c.w) v px);
      shape = λ c ok reach ink px r px' d. kept_left _ px _ d.called.paints (λ z. drawn_kept c reach ink px (shape_open c (length px) ok z).valid);
      polyline = λ c pts ok width color px r px' d. kept_left _ px _ d.called.paints
          (λ z. rw (polyline_drawn pts width color c.pitch c.clip px)
          (drawn_kept c (reach_all (chain_of pts width color)) (ink_all (chain_of pts width color)) px (points_open c (length px) pts ok z).canvas.valid));
      polygon = λ c pts paint px scratch r px' scratch' d. kept_left _ px _ d.called.called.paints
          (λ z. drawn_kept c (poly_reach pts) (poly_ink pts paint) px (poly_valid c (length px) pts paint (length scratch) z));
      grounding = λ c v px r px' d. kept_left _ px _ d.called.paints (λ z. drawn_kept c c.clip (λ _ _ _. v) px (open_of c (length px) z).valid);
      brush = λ c b ok rect radius px r px' d. kept_left _ px _ d.called.paints
          (λ z. drawn_kept c (fill_reach rect) (fill_ink rect radius (paint_of b)) px (brush_valid c (length px) b ok z));
      brush_polygon = λ c pts b px scratch r px' scratch' d. kept_left _ px _ d.called.called.paints
          (λ z. drawn_kept c (poly_reach pts) (poly_ink pts (paint_of b)) px (points_brush_valid c (length px) pts b (length scratch) z));
      shadow = λ c skip ok reach ink px r px' d. kept_left _ px _ d.called.paints
          (λ z. drawn_kept c reach ink px (skip_valid c (length px) skip ok z));
      painting = λ sheet pitch px scratch a px' scratch' d. painted_kept sheet pitch px scratch a px' scratch' d;
      patching = λ old new pitch px scratch a px' scratch' d. patched_kept new pitch px scratch a px' scratch' old d;
    }
