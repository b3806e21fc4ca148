-- The walk over the items of an accepted sheet: what an item adds to the most clips and to the pixels. Assumes nothing.
use Prim.Native.Nat.{ℕ, suc, ◌+◌, ◌*◌, ◌-◌, ◌%◌, ◌/◌, ◌<◌, ◌≤◌, max}
use mathlib.Core.Path.{◌≡◌, refl, sym, ap, ◌∙◌}
use mathlib.Core.Bool.{Bool, true, false, cond, true≢false}
use mathlib.Core.List.{List}
use native.Mathlib.Nat.{le_of_mul-le-mul_right, mul_comm, zero-add}
use native.Mathlib.Omega.{arith}
use Rattle.geom.specs.Int.{up}
use Rattle.geom.specs.declared.IRect.{IRect}
use Rattle.draw.specs.Draw as Draw
use Rattle.draw.specs.Areas.{in_area, clip_to, AreaFits}
use Rattle.draw.proofs.Clips.{in_clip}
use Rattle.draw.proofs.Frame.{Pitch, pitch_of}
use Rattle.gfx.specs.declared.Canvas.{Canvas}
use Rattle.gfx.proofs.Fits.{canvas_fits}
use Rattle.gfx.proofs.Valid.{side_of, valid_of_lem}
use Rattle.sheet.specs.Check.{width_of, height_of, count_of, bytes_at, verdict, sheet_check}
use Rattle.items.specs.Items.{item_of}
use Rattle.items.specs.Format.{reach_of, need_of, kind, format, item_in, items_from, item_need, needs, sheet_of}
use Rattle.redraw.specs.Drawing as drawing
use Rattle.redraw.specs.Drawing.{push, pop, shape, Clips, steps}
use Rattle.redraw.specs.Measure.{deepest, met, met_all, room, room_of, measuring}
use Rattle.redraw.proofs.Sums.{sum_same, count_area}
use Rattle.redraw.proofs.Measured.{deepest_least, met_of, met_turn}
use Rattle.clips.specs.States.{state_in, start_of, state_after, is_shape}
use Rattle.clips.proofs.Clips.{saved_length, clips_of}
use Rattle.clips.proofs.Shapes.{shape_own, shape_leaves}
use Rattle.clips.proofs.Standing.{Standing, stands_start, clips_start, stands_next, clips_next}
use Rattle.items.proofs.Readings.{reads_refused, reads_accepted}
use Rattle.measure.specs.Walked.{Read, Small, cells_of, deepest_of, pixels_of, Walked}
use Rattle.std.specs.Ordering.{ord_max}
use Rattle.std.proofs.Common.{nat_cmp, rules}

module _ (s : List ℕ) where
  -- what the clip lets through lies in the canvas
  module _ (k : ℕ) (c : Canvas) (st : Standing s (width_of s) k c) (reach : IRect) where
    rows : Pitch (up c.w) c.pitch
    rows = pitch_of (up c.w) c.pitch st.sound.rows

    fits : AreaFits c.pitch (clip_to reach c.clip) (c.pitch * up c.h)
    fits = canvas_fits c _ reach (record { valid = st.sound.valid; frame = record { rows = rows; long = refl } })

    pub small : Small (clip_to reach c.clip)
    small = record { across = fits.across; wide = fits.wide; down = fits.down; high = fits.high }

    right : (clip_to reach c.clip).x1 ≤ width_of s
    right = rw st.row at fits.right

    bottom : (clip_to reach c.clip).y1 ≤ height_of s
    bottom =
        let low : 0 < c.pitch = omega (arith, (side_of c.w (valid_of_lem c st.sound.valid).side_w).low, rows.room) in
        let b : (clip_to reach c.clip).y1 * c.pitch ≤ c.pitch * up c.h = fits.bottom in
        rw st.high at (le_of_mul-le-mul_right (rw (mul_comm c.pitch (up c.h)) at b) low)

    pub met_cells : (a : List ℕ) → kind.reach a ≡ reach
        → met kind (width_of s) (height_of s) (record { under = c.clip; drawn = a }) ≡ cells_of (clip_to reach c.clip)
    unfolding met drawing.meets Draw.meets
    met_cells a q =
        sum_same _ _ (width_of s * height_of s)
        (λ i l. ap (λ (t : Bool). cond {A = ℕ} t 1 0) (same (i % width_of s) (i / width_of s)))
        ∙ count_area (width_of s) (height_of s) (clip_to reach c.clip) fits.across right fits.down bottom
      where
        same : (x y : ℕ) → drawing.meets kind (record { under = c.clip; drawn = a }) x y ≡ in_area (clip_to reach c.clip) x y
        same x y = meets_is x y ∙ in_clip reach c.clip x y
          where
            meets_is : (x y : ℕ) → drawing.meets kind (record { under = c.clip; drawn = a }) x y ≡ Draw.meets c.clip reach x y
            meets_is x y = rw q

  -- what a shape adds, and that a push or a pop adds nothing
  pub shape_cells : (k : ℕ) (c : Canvas) → Standing s (width_of s) k c → (b : List ℕ) → is_shape (item_in b) ≡ true
      → met_of kind (width_of s) (height_of s) (item_in b) (clips_of c) ≡ cells_of (clip_to (reach_of b (item_of b)) c.clip)
  unfolding met_of
  shape_cells k c st b e = rw (shape_own b (item_of b) e) (met_cells k c st _ b refl)

  shape_need : (b : List ℕ) → is_shape (item_in b) ≡ true → item_need (item_in b) ≡ need_of b (item_of b)
  unfolding item_need
  shape_need b e = rw (shape_own b (item_of b) e)

  no_cells : (i : drawing.Item (List ℕ)) (c : Clips) → is_shape i ≡ false → met_of kind (width_of s) (height_of s) i c ≡ 0
  unfolding met_of is_shape
  no_cells (push b box) c e = refl
  no_cells (pop b) c e = refl
  no_cells (shape b) c e = absurd (true≢false e)

  no_need : (i : drawing.Item (List ℕ)) → is_shape i ≡ false → item_need i ≡ 0
  unfolding item_need is_shape
  no_need (push b box) e = refl
  no_need (pop b) e = refl
  no_need (shape b) e = absurd (true≢false e)

  -- ---- the loop

  -- before the item k: what was taken so far, with what the items from k on take, is what all of them take
  pub record Walking (n : ℕ) (c : Canvas) (words most pixels k : ℕ) : Type 0 where
    pub within : k ≤ n
    pub stands : Standing s (width_of s) k c
    pub need : max words (needs (items_from s (n - k) k)) ≡ needs (sheet_of s).items
    pub deep : max most (deepest (items_from s (n - k) k) (clips_of c)) ≡ deepest_of s
    pub seen : c.depth ≤ most
    pub cells : pixels + met_all kind (width_of s) (height_of s) (steps (items_from s (n - k) k) (clips_of c)) ≡ pixels_of s
    pub low : pixels ≤ k * 4194304

  pub walking_first : Read s → (n : ℕ) → n ≡ count_of s → Walking n (start_of s) 0 0 0 0
  unfolding state_in
  walking_first e n q =
      let z : n - 0 ≡ n = omega arith in
      let clips = clips_start s in
      record {
        within = omega arith;
        stands = stands_start s e;
        need = rw (z, q) (omega arith);
        deep = rw (z, q, clips) (omega arith);
        seen = omega arith;
        cells = rw (z, q, clips) (zero-add (pixels_of s));
        low = omega arith;
      }

  module _ (e : Read s) (n : ℕ) (q : n ≡ count_of s) (c : Canvas) (words most pixels k : ℕ) (w : Walking n c words most pixels k) (h : k < n) where
    abbrev b : List ℕ
    b = bytes_at s k

    abbrev next : Canvas
    next = state_after (item_of b) c

    -- an item that needs so many words and adds so many pixels
    walking_next : (need cells : ℕ) → need ≡ item_need (item_in b) → met_of kind (width_of s) (height_of s) (item_in b) (clips_of c) ≡ cells → cells ≤ 4194304
        → Walking n next (max words need) (max most next.depth) (pixels + cells) (k + 1)
    unfolding items_from needs deepest
    walking_next need cells r m l =
        let u : n - k ≡ suc (n - (k + 1)) = omega arith in
        let k' : k < count_of s = omega (arith, q) in
        let rest = items_from s (n - (k + 1)) (k + 1) in
        let v = rw (u, sym r) at w.need in
        let d = rw (u, saved_length c.saved c.depth, sym (clips_next s (width_of s) e k k' c w.stands)) at w.deep in
        let now = rw (saved_length next.saved next.depth) at (deepest_least rest (clips_of next)) in
        let t = rw (u, met_turn kind (width_of s) (height_of s) (item_in b) rest (clips_of c), m) at w.cells in
        record {
          within = omega arith;
          stands = stands_next s (width_of s) e k k' c w.stands;
          need = omega (arith, v);
          deep = omega (arith, d, now, w.seen);
          seen = omega arith;
          cells = rw (clips_next s (width_of s) e k k' c w.stands) (omega (arith, t));
          low = omega (arith, w.low, l);
        }

    -- a shape leaves the state
    pub walking_shape : is_shape (item_in b) ≡ true → (need cells : ℕ) → need ≡ need_of b (item_of b) → cells ≡ cells_of (clip_to (reach_of b (item_of b)) c.clip) → cells ≤ 4194304
        → Walking n c (max words need) most (pixels + cells) (k + 1)
    walking_shape i need cells r m l =
        let same : max most c.depth ≡ most = omega (arith, w.seen) in
        rw (shape_leaves b (item_of b) c i, same) at (walking_next need cells (r ∙ sym (shape_need b i)) (shape_cells k c w.stands b i ∙ sym m) l)

    -- a push or a pop alters it, and takes nothing else
    pub walking_other : is_shape (item_in b) ≡ false → Walking n next words (max most next.depth) pixels (k + 1)
    walking_other i =
        let z : pixels + 0 ≡ pixels = omega arith in
        let y : max words 0 ≡ words = omega arith in
        rw (y, z) at (walking_next 0 0 (sym (no_need (item_in b) i)) (no_cells (item_in b) (clips_of c) i) (omega arith))

  pub walking_end : (n : ℕ) (c : Canvas) (words most pixels k : ℕ) → Walking n c words most pixels k → n ≤ k → Walked s words most pixels
  unfolding items_from needs deepest steps met_all
  walking_end n c words most pixels k w h =
      let u : n - k ≡ 0 = omega arith in
      record {
        need = omega (arith, rw u at w.need);
        deep = omega (arith, rw (u, saved_length c.saved c.depth) at w.deep, w.seen);
        cells = omega (arith, rw u at w.cells);
      }

-- ---- the answer

-- the larger of two by std's `max`
pub larger_is : (a b : ℕ) → ord_max nat_cmp a b ≡ max a b
larger_is a b = search rules

pub refused_room : (s : List ℕ) (n k : ℕ) → sheet_check s ≡ verdict n k → (n ≡ 0 → ⊥) → room n k 0 0 0 ≡ measuring format s
unfolding measuring room_of
refused_room s n k e h = sym (ap (room_of format) (reads_refused s n k e h))

pub read_room : (s : List ℕ) → Read s → (words most pixels : ℕ) → Walked s words most pixels → room 0 0 words most pixels ≡ measuring format s
unfolding measuring room_of
read_room s e words most pixels w = rw (w.need, w.deep, w.cells) (sym (ap (room_of format) (reads_accepted s e)))
