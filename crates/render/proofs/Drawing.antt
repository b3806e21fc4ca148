-- The items of an accepted sheet, drawn by the canvas calls, are redraw's `items_on`, their steps are its `items_alter`, and the scratch words that
-- they need are +0. Assumes nothing.
use Prim.Native.Nat.{ℕ, zero, suc, ◌+◌, ◌*◌, ◌≤◌, ◌<◌, max}
use mathlib.Core.Path.{◌≡◌, refl, sym, ap, ◌∙◌}
use mathlib.Core.Bool.{true}
use mathlib.Core.List.{List, ◌∷◌}
use native.Mathlib.Omega.{arith}
use lib.ListN.{length}
use Rattle.geom.specs.Int.{up}
use Rattle.geom.specs.declared.IRect.{IRect}
use Rattle.gfx.specs.declared.Canvas.{Canvas}
use Rattle.draw.proofs.Frame.{pitch_of}
use Rattle.gfx.proofs.Sizes.{Open}
use Rattle.poly.specs.Poly.{cleared}
use Rattle.sheet.specs.Check.{height_of, count_of, bytes_at, verdict, sheet_check}
use Rattle.items.specs.Items.{item_of}
use Rattle.items.specs.Format.{need_of, drawn_as, item_in, item_need, needs, items_from, kind}
use Rattle.items.specs.declared.Item.{Item}
use Rattle.items.specs.declared.Item.TheVariants.{Push, Pop, Fill, Stroke, Line, Poly, Shadow, Chain, Unknown}
use Rattle.items.proofs.Sound.{item_ok}
use Rattle.redraw.specs.Drawing as drawing
use Rattle.redraw.specs.Drawing.{push, pop, shape, item_on, items_on}
use Rattle.redraw.specs.Counts.{item_alters, items_alter}
use Rattle.redraw.proofs.Items.{length_shape}
use Rattle.clips.specs.States.{state_after}
use Rattle.clips.proofs.Clips.{clips_of}
use Rattle.clips.proofs.Standing.{Standing, item_stands, stands_next, clips_next}
use Rattle.render.specs.Stages.{Stage, stage_after, stages_from, item_steps, steps_from}
use Rattle.render.proofs.Cleared.{cleared_length, cleared_none, cleared_twice}
use Rattle.render.proofs.Steps.{px_item, scratch_item, steps_item}

-- an item needs what its bytes need
pub need_in_lem : (b : List ℕ) (i : Item) → item_of b ≡ i → item_need (drawn_as b i) ≡ need_of b i
unfolding item_need drawn_as need_of
need_in_lem b (Push rect) e = refl
need_in_lem b Pop e = refl
need_in_lem b (Fill rect r paint) e = rw e
need_in_lem b (Stroke rect r width color) e = rw e
need_in_lem b (Line p q width color) e = rw e
need_in_lem b (Poly paint count) e = rw e
need_in_lem b (Shadow rect r blur color skip) e = rw e
need_in_lem b (Chain width color count) e = rw e
need_in_lem b Unknown e = rw e

-- px is as long after an item as before it
length_item : (pitch : ℕ) (i : drawing.Item (List ℕ)) (clip : IRect) (px : List ℕ) → length (item_on kind pitch i clip px) ≡ length px
unfolding item_on
length_item pitch (push b box) clip px = refl
length_item pitch (pop b) clip px = refl
length_item pitch (shape b) clip px = length_shape kind pitch clip b px

-- what is asked of a stage at the item k of a sheet, where the items from k on need so many words
pub record At (s : List ℕ) (pitch k : ℕ) (t : Stage) (need : ℕ) : Type 0 where
  pub stands : Standing s pitch k t.canvas
  pub count : length t.px ≡ pitch * height_of s
  pub words : need ≤ length t.scratch

module _ (s : List ℕ) (pitch : ℕ) (e : sheet_check s ≡ verdict 0 0) (k : ℕ) (h : k < count_of s) (t : Stage) (rest : List (drawing.Item (List ℕ)))
    (a : At s pitch k t (needs (item_in (bytes_at s k) ∷ rest))) where
  abbrev b : List ℕ
  b = bytes_at s k

  abbrev c : Canvas
  c = t.canvas

  ok : item_ok b c.depth (item_of b) ≡ true
  ok = item_stands s pitch e k h c a.stands

  opened : Open c (length t.px)
  opened =
      let st = a.stands in
      record {
        valid = st.sound.valid;
        frame = record { rows = pitch_of (up c.w) c.pitch st.sound.rows; long = a.count ∙ rw (st.row, st.high) };
      }

  room : (need_of b (item_of b) ≤ length t.scratch) × (needs rest ≤ length t.scratch)
  unfolding needs
  room =
      let both : max (need_of b (item_of b)) (needs rest) ≤ length t.scratch = rw (need_in_lem b (item_of b) refl) at a.words in
      (omega arith, omega arith)

  next_stands : Standing s pitch (k + 1) (state_after (item_of b) c)
  next_stands = stands_next s pitch e k h c a.stands

  next_px : (stage_after b t).px ≡ item_on kind pitch (item_in b) c.clip t.px
  unfolding stage_after
  next_px =
      px_item b c t.px opened t.scratch (item_of b) refl ok room.0
      ∙ ap (λ (p : ℕ). item_on kind p (item_in b) c.clip t.px) a.stands.row

  next_steps : item_steps b t ≡ item_alters kind pitch (item_in b) c.clip t.px
  unfolding item_steps
  next_steps =
      steps_item b c t.px opened t.scratch (item_of b) refl ok room.0
      ∙ ap (λ (p : ℕ). item_alters kind p (item_in b) c.clip t.px) a.stands.row

  next_scratch : (stage_after b t).scratch ≡ cleared (item_need (item_in b)) t.scratch
  unfolding stage_after
  next_scratch = rw (need_in_lem b (item_of b) refl) (scratch_item b c t.px opened t.scratch (item_of b) ok room.0)

  next_at : At s pitch (k + 1) (stage_after b t) (needs rest)
  unfolding stage_after
  next_at =
      record {
        stands = next_stands;
        count = ap length next_px ∙ length_item _ (item_in b) _ t.px ∙ a.count;
        words = rw (next_scratch, cleared_length (item_need (item_in b)) t.scratch (rw (need_in_lem b (item_of b) refl) room.0)) room.1;
      }

module _ (s : List ℕ) (pitch : ℕ) (e : sheet_check s ≡ verdict 0 0) where
  pub drawn_px : (n k : ℕ) (t : Stage) → k + n ≡ count_of s → At s pitch k t (needs (items_from s n k))
      → (stages_from s n k t).px ≡ items_on kind pitch (items_from s n k) (clips_of t.canvas) t.px
  unfolding stages_from items_from items_on stage_after
  drawn_px zero k t h a = refl
  drawn_px (suc n) k t h a =
      let l : k < count_of s = omega arith in
      drawn_px n (k + 1) (stage_after (bytes_at s k) t) (omega arith) (next_at s pitch e k l t (items_from s n (k + 1)) a)
      ∙ rw (clips_next s pitch e k l t.canvas a.stands, next_px s pitch e k l t (items_from s n (k + 1)) a)

  pub drawn_steps : (n k : ℕ) (t : Stage) → k + n ≡ count_of s → At s pitch k t (needs (items_from s n k))
      → steps_from s n k t ≡ items_alter kind pitch (items_from s n k) (clips_of t.canvas) t.px
  unfolding steps_from items_from items_alter stage_after
  drawn_steps zero k t h a = refl
  drawn_steps (suc n) k t h a =
      let l : k < count_of s = omega arith in
      rw (next_steps s pitch e k l t (items_from s n (k + 1)) a)
      (ap (λ (m : ℕ). item_alters kind pitch (item_in (bytes_at s k)) t.canvas.clip t.px + m)
      (drawn_steps n (k + 1) (stage_after (bytes_at s k) t) (omega arith) (next_at s pitch e k l t (items_from s n (k + 1)) a)
      ∙ rw (clips_next s pitch e k l t.canvas a.stands, next_px s pitch e k l t (items_from s n (k + 1)) a)))

  pub drawn_scratch : (n k : ℕ) (t : Stage) → k + n ≡ count_of s → At s pitch k t (needs (items_from s n k))
      → (stages_from s n k t).scratch ≡ cleared (needs (items_from s n k)) t.scratch
  unfolding stages_from items_from needs
  drawn_scratch zero k t h a = sym (cleared_none t.scratch)
  drawn_scratch (suc n) k t h a =
      let l : k < count_of s = omega arith in
      let i = item_in (bytes_at s k) in
      drawn_scratch n (k + 1) (stage_after (bytes_at s k) t) (omega arith) (next_at s pitch e k l t (items_from s n (k + 1)) a)
      ∙ rw (next_scratch s pitch e k l t (items_from s n (k + 1)) a) (cleared_twice (item_need i) (needs (items_from s n (k + 1))) t.scratch)
