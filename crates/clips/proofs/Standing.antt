-- The states along the items of an accepted sheet: sound before each item, with as many clips saved as the check counts and with redraw's clips.
-- Assumes nothing.
--     stands_first, clips_first   before the first item, with a first clip inside the canvas
--     whole                       the whole canvas is such a clip
--     stands_start, clips_start   .. and so, painted from nothing
--     stands_next, clips_next     after one item more
use Prim.Native.Nat.{ℕ, ◌+◌, ◌<◌}
use mathlib.Core.Path.{◌≡◌, refl, sym, ap, ◌∙◌}
use mathlib.Core.Bool.{true, or-true}
use mathlib.Core.List.{List}
use native.Mathlib.Omega.{arith}
use borrow.Author.Tests.{le-ltb, leb-true}
use lib.Dec.{leb}
use lib.IntN.{pos}
use lib.ListN.{get_or-replicate}
use Rattle.geom.specs.Box.{empty, no_box}
use Rattle.geom.specs.declared.IRect.{IRect}
use Rattle.geom.proofs.Bools.{and_right}
use Rattle.geom.proofs.Int.{le_le_z}
use Rattle.draw.specs.Frame.{pitch_number}
use Rattle.draw.proofs.Frame.{in_pitch}
use Rattle.gfx.specs.State as state
use Rattle.gfx.specs.State.{clip_ok, in_canvas, range_in, place_ok, four_zeros, both_zero}
use Rattle.gfx.specs.declared.Canvas.{Canvas}
use Rattle.gfx.specs.Sound.{Sound}
use Rattle.gfx.proofs.Places.{places_all}
use Rattle.gfx.proofs.Valid.{of_valid}
use Rattle.sheet.specs.Kinds.{depth_after}
use Rattle.sheet.specs.Check.{width_of, height_of, count_of, bytes_at, depth_at, side_ok, verdict, sheet_check}
use Rattle.sheet.proofs.Accepted.{AcceptedItem, accepted, accepted_item, depth_before, depth_next}
use Rattle.sheet.proofs.Local.{kind_same}
use Rattle.items.specs.Items.{item_of}
use Rattle.items.specs.Format.{item_in, sheet_of}
use Rattle.items.proofs.Sound.{item_ok, saved_after, item_ok_lem, saved_after_lem}
use Rattle.redraw.specs.Drawing.{only, after}
use Rattle.redraw.specs.Sheet.{canvas}
use Rattle.clips.specs.States.{state_in, start_of, state_after}
use Rattle.clips.proofs.Clips.{saved_of, clips_of}
use Rattle.clips.proofs.After.{After, after_item}

side_in : (n : ℕ) → side_ok n ≡ true → state.side_ok (pos n) ≡ true
unfolding state.side_ok
side_in n e = e

module _ (s : List ℕ) (pitch : ℕ) where
  -- what is known of the state before the item k
  pub record Standing (k : ℕ) (c : Canvas) : Type 0 where
    pub sound : Sound c
    pub depth : c.depth ≡ depth_before s k
    pub wide : c.w ≡ pos (width_of s)
    pub high : c.h ≡ pos (height_of s)
    pub row : c.pitch ≡ pitch

  module _ (first : IRect) where
    abbrev start : Canvas
    start = state_in (pos (width_of s)) (pos (height_of s)) pitch first

    pub clips_first : clips_of start ≡ only first
    unfolding state_in saved_of
    clips_first = refl

    module _ (e : sheet_check s ≡ verdict 0 0) (rows : pitch_number (width_of s) pitch ≡ 0) (inside : clip_ok (pos (width_of s)) (pos (height_of s)) first ≡ true) where
      place : (i : ℕ) → i < 16 → place_ok start i ≡ true
      unfolding state_in place_ok four_zeros both_zero no_box
      place i l = rw (le-ltb i 0 (omega arith), get_or-replicate 16 i no_box no_box l)

      sound_first : Sound start
      unfolding state_in
      sound_first =
          record {
            valid =
                of_valid start
                (record {
                  side_w = side_in (width_of s) (accepted s e).width;
                  side_h = side_in (height_of s) (accepted s e).height;
                  deep = refl;
                  clip = inside;
                  places = places_all start 16 place;
                });
            rows = rows;
            sized = refl;
          }

      pub stands_first : Standing 0 start
      unfolding state_in depth_before
      stands_first = record { sound = sound_first; depth = refl; wide = refl; high = refl; row = refl }

-- the whole canvas is a clip inside it
module _ (s : List ℕ) where
  pub whole : clip_ok (pos (width_of s)) (pos (height_of s)) (canvas (sheet_of s)) ≡ true
  unfolding clip_ok in_canvas range_in canvas
  whole = rw (le_le_z (pos (width_of s)) (pos (width_of s)) (omega arith), le_le_z (pos (height_of s)) (pos (height_of s)) (omega arith)) (or-true (empty (canvas (sheet_of s))))

  -- the width is a pitch that is in its range
  own_rows : sheet_check s ≡ verdict 0 0 → pitch_number (width_of s) (width_of s) ≡ 0
  own_rows e =
      let w = leb-true (width_of s) 2048 (and_right (leb 1 (width_of s)) (leb (width_of s) 2048) (accepted s e).width) in
      in_pitch (record { room = omega arith; most = omega (arith, w) })

  pub clips_start : clips_of (start_of s) ≡ only (canvas (sheet_of s))
  clips_start = clips_first s (width_of s) (canvas (sheet_of s))

  pub stands_start : sheet_check s ≡ verdict 0 0 → Standing s (width_of s) 0 (start_of s)
  stands_start e = stands_first s (width_of s) (canvas (sheet_of s)) e (own_rows e) whole

module _ (s : List ℕ) (pitch : ℕ) where
  module _ (e : sheet_check s ≡ verdict 0 0) (k : ℕ) (h : k < count_of s) (c : Canvas) (st : Standing s pitch k c) where
    abbrev b : List ℕ
    b = bytes_at s k

    item : AcceptedItem s k
    item = accepted_item s k e h

    pub item_stands : item_ok b c.depth (item_of b) ≡ true
    item_stands = rw st.depth (item_ok_lem s k item)

    next : After b (item_of b) c (state_after (item_of b) c)
    next = after_item b c st.sound (item_of b) item_stands

    next_depth : saved_after (item_of b) c.depth ≡ depth_before s (k + 1)
    unfolding depth_at
    next_depth =
        rw st.depth (sym (saved_after_lem b 0 (depth_before s k)) ∙ ap (λ (n : ℕ). depth_after n (depth_before s k)) (kind_same s k item) ∙ sym (depth_next s k))

    pub stands_next : Standing s pitch (k + 1) (state_after (item_of b) c)
    stands_next =
        record {
          sound = next.sound;
          depth = next.depth ∙ next_depth;
          wide = next.wide ∙ st.wide;
          high = next.high ∙ st.high;
          row = next.row ∙ st.row;
        }

    pub clips_next : clips_of (state_after (item_of b) c) ≡ after (item_in b) (clips_of c)
    clips_next = next.clips
