-- An accepted call on a sound state returns a sound one (`stays_sound`). Assumes nothing.
use mathlib.Core.Path.{◌≡◌, refl, sym, ◌∙◌}
use mathlib.Core.Bool.{true, cond, or-true}
use mathlib.Core.Logic.{⊎_elim}
use Prim.Native.Nat.{ℕ, ◌+◌, ◌-◌, ◌<◌, ◌≤◌}
use native.Mathlib.Nat.{eq-or-lt_of_le}
use native.Mathlib.Omega.{arith}
use borrow.Author.Tests.{ltb-true, ltb-false, eqb-false, le-leb, lt-ltb, le-ltb}
use lib.Dec.{ltb, eqb}
use lib.IntN.{ℤ, pos}
use lib.ListN.{length-set, get_or-replicate}
use lib.Seq.{get_or-set_same, get_or-set_other}
use Rattle.geom.proofs.Bools.{split}
use Rattle.geom.proofs.Int.{le_le_z}
use Rattle.geom.specs.declared.IRect.{IRect}
use Rattle.geom.specs.Box.{box_of, empty, no_box}
use Rattle.gfx.proofs.Places.{places_at, places_all}
use Rattle.gfx.proofs.Valid.{clip_meet, valid_of_lem, of_valid, valid_depth}
use Rattle.gfx.specs.State.{in_canvas, range_in, side_ok, clip_ok, both_zero, four_zeros, saved_at, place_ok, fresh_of, pushed, unsaved, popped}
use Rattle.geom.specs.Plane.{outer_of}
use Rattle.geom.specs.declared.Rect.{Rect}
use Rattle.geom.specs.Int.{up}
use Rattle.draw.specs.Frame.{pitch_number}
use Rattle.draw.proofs.Frame.{in_pitch}
use Rattle.gfx.proofs.Sizes.{size_open, resize_new, push_room, push_box_room}
use Rattle.gfx.specs.Calls.{raised, new_number, resize_number, same_size, resized, state_number, push_box_number, push_number}
use Rattle.gfx.specs.Sound.{Sound, StaysSound}
use Rattle.gfx.specs.declared.Canvas.{Canvas}

-- ---- a place in use, and a free one

used : (c : Canvas) (i : ℕ) → i < c.depth → place_ok c i ≡ clip_ok c.w c.h (saved_at c i)
unfolding place_ok
used c i h = rw (lt-ltb i c.depth h)

free : (c : Canvas) (i : ℕ) → c.depth ≤ i → place_ok c i ≡ four_zeros (saved_at c i)
unfolding place_ok
free c i h = rw (le-ltb i c.depth h)

-- two numbers are below, equal or above
order : {A : Type 0} (i d : ℕ) → (i < d → A) → (i ≡ d → A) → (d < i → A) → A
order {A} i d below here above =
    split (ltb i d) (λ t. A) (λ e. below (ltb-true i d e))
    (λ e. ⊎_elim (λ q. here (sym q)) above (eq-or-lt_of_le (ltb-false i d e)))

-- ---- push

module _ (c : Canvas) (b : IRect) (s : Sound c) (room : c.depth < 16) where
  push_place : (i : ℕ) → i < 16 → place_ok (pushed c b) i ≡ true
  unfolding pushed
  push_place i h =
      let v = valid_of_lem c s.valid in
      let k = places_at c 16 v.places i h in
      order i c.depth
      (λ l. used (pushed c b) i (omega arith) ∙ rw (get_or-set_other c.saved c.depth i c.clip no_box (λ e. omega arith)) (sym (used c i l) ∙ k))
      (λ q. used (pushed c b) i (omega arith) ∙ rw (q, get_or-set_same c.saved c.depth c.clip no_box (omega arith)) v.clip)
      (λ g. free (pushed c b) i (omega arith) ∙ rw (get_or-set_other c.saved c.depth i c.clip no_box (λ e. omega arith)) (sym (free c i (omega arith)) ∙ k))

  pub push_sound : Sound (pushed c b)
  unfolding pushed
  push_sound =
      let v = valid_of_lem c s.valid in
      record {
        valid =
            of_valid (pushed c b)
            (record {
              side_w = v.side_w;
              side_h = v.side_h;
              deep = le-leb (c.depth + 1) 16 (omega arith);
              clip = clip_meet c.w c.h c.clip b v.clip;
              places = places_all (pushed c b) 16 push_place;
            });
        rows = s.rows;
        sized = length-set c.saved c.depth c.clip ∙ s.sized;
      }

-- ---- pop

module _ (c : Canvas) (s : Sound c) (some : 0 < c.depth) where
  last : c.depth - 1 < c.depth
  last = omega arith

  unsave_place : (i : ℕ) → i < 16 → place_ok (unsaved c) i ≡ true
  unfolding unsaved four_zeros both_zero no_box
  unsave_place i h =
      let v = valid_of_lem c s.valid in
      let k = places_at c 16 v.places i h in
      order i (c.depth - 1)
      (λ l. used (unsaved c) i (omega arith) ∙ rw (get_or-set_other c.saved (c.depth - 1) i no_box no_box (λ e. omega arith)) (sym (used c i (omega arith)) ∙ k))
      (λ q. free (unsaved c) i (omega arith) ∙ rw (q, get_or-set_same c.saved (c.depth - 1) no_box no_box (omega arith)))
      (λ g. free (unsaved c) i (omega arith) ∙ rw (get_or-set_other c.saved (c.depth - 1) i no_box no_box (λ e. omega arith)) (sym (free c i (omega arith)) ∙ k))

  pub unsave_sound : Sound (unsaved c)
  unfolding unsaved
  unsave_sound =
      let v = valid_of_lem c s.valid in
      let d = valid_depth c s.valid in
      record {
        valid =
            of_valid (unsaved c)
            (record {
              side_w = v.side_w;
              side_h = v.side_h;
              deep = le-leb (c.depth - 1) 16 (omega arith);
              clip = sym (used c (c.depth - 1) (omega arith)) ∙ places_at c 16 v.places (c.depth - 1) (omega arith);
              places = places_all (unsaved c) 16 unsave_place;
            });
        rows = s.rows;
        sized = length-set c.saved (c.depth - 1) no_box ∙ s.sized;
      }

-- with nothing saved a pop does nothing
pub pop_sound : (c : Canvas) → Sound c → Sound (popped c)
unfolding popped
pop_sound c s =
    split (eqb c.depth 0) (λ t. Sound (cond t c (unsaved c))) (λ e. s)
    (λ e. unsave_sound c s (omega (arith, eqb-false c.depth 0 e)))

-- ---- a canvas that is made anew

module _ (w h : ℤ) (pitch : ℕ) (p : side_ok w ≡ true) (q : side_ok h ≡ true) where
  whole : clip_ok w h (box_of (pos 0) (pos 0) w h) ≡ true
  unfolding clip_ok in_canvas range_in
  whole =
      rw (le_le_z w w (omega arith), le_le_z h h (omega arith)) (or-true (empty (box_of (pos 0) (pos 0) w h)))

  fresh_place : (i : ℕ) → i < 16 → place_ok (fresh_of w h pitch) i ≡ true
  unfolding fresh_of four_zeros both_zero no_box
  fresh_place i l = free (fresh_of w h pitch) i (omega arith) ∙ rw (get_or-replicate 16 i no_box no_box l)

  pub fresh_sound : pitch_number (up w) pitch ≡ 0 → Sound (fresh_of w h pitch)
  unfolding fresh_of
  fresh_sound r =
      record {
        valid =
            of_valid (fresh_of w h pitch)
            (record {
              side_w = p;
              side_h = q;
              deep = refl;
              clip = whole;
              places = places_all (fresh_of w h pitch) 16 fresh_place;
            });
        rows = r;
        sized = refl;
      }

-- ---- the calls: an accepted one returns a sound state, from a sound one where it takes one

pub new_sound : (w h : ℤ) (pitch n : ℕ) → new_number w h pitch n ≡ 0 → Sound (fresh_of (raised w) (raised h) pitch)
new_sound w h pitch n e =
    let z = size_open (up (raised w)) (raised w) (raised h) pitch n e in
    fresh_sound (raised w) (raised h) pitch z.side_w z.side_h (in_pitch z.frame.rows)

pub resize_sound : (c : Canvas) (w h : ℤ) (n : ℕ) → Sound c → resize_number c w h n ≡ 0 → Sound (resized c w h)
unfolding resized
resize_sound c w h n s e =
    split (same_size c w h) (λ t. Sound (cond t c (fresh_of (raised w) (raised h) c.pitch))) (λ k. s)
    (λ k. new_sound w h c.pitch n (resize_new c w h n e))

pub push_clip_sound : (c : Canvas) (r : Rect) → Sound c → push_number c r ≡ 0 → Sound (pushed c (outer_of r))
push_clip_sound c r s e = push_sound c (outer_of r) s (push_room c r e)

pub push_clip_i_sound : (c : Canvas) (b : IRect) → Sound c → push_box_number c ≡ 0 → Sound (pushed c b)
push_clip_i_sound c b s e = push_sound c b s (push_box_room c e)

-- no call refuses a sound state for itself
pub sound_state : {c : Canvas} → Sound c → state_number c ≡ 0
unfolding state_number
sound_state s = rw (s.valid, s.rows)

pub stays_sound : StaysSound
stays_sound = record {
  new = new_sound;
  resize = resize_sound;
  push_clip = push_clip_sound;
  push_clip_i = push_clip_i_sound;
  pop_clip = pop_sound;
  state = λ c s. sound_state s;
}
