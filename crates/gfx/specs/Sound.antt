-- What the calls keep: a state that is valid, with its pitch in range. No contract cites it; `stays_sound` (proofs/Kept) proves
-- it.
use Rattle.std.specs.Prelude.{true, ◌≡◌, ℕ, ℤ, length}
use Rattle.geom.specs.declared.IRect.{IRect}
use Rattle.geom.specs.declared.Rect.{Rect}
use Rattle.geom.specs.Int.{up}
use Rattle.geom.specs.Plane.{outer_of}
use Rattle.draw.specs.Frame.{pitch_number}
use Rattle.gfx.specs.State.{valid_of, fresh_of, pushed, popped}
use Rattle.gfx.specs.Calls.{raised, new_number, resize_number, resized, state_number, push_number, push_box_number}
use Rattle.gfx.specs.declared.Canvas.{Canvas}

-- neither 12 nor 15 is given for the state; it has 16 places for saved clips, as its type says
pub record Sound (c : Canvas) : Type 0 where
  pub valid : valid_of c ≡ true
  pub rows : pitch_number (up c.w) c.pitch ≡ 0
  pub sized : length c.saved ≡ 16

-- An accepted call, one whose number is 0, on a sound state returns a sound one, and `new` returns one from any arguments.
-- n is the length of px. Any other call that returns a state returns the one that it was given.
pub record StaysSound : Type 0 where
  pub new : (w h : ℤ) (pitch n : ℕ) → new_number w h pitch n ≡ 0 → Sound (fresh_of (raised w) (raised h) pitch)
  pub resize : (c : Canvas) (w h : ℤ) (n : ℕ) → Sound c → resize_number c w h n ≡ 0 → Sound (resized c w h)
  pub push_clip : (c : Canvas) (r : Rect) → Sound c → push_number c r ≡ 0 → Sound (pushed c (outer_of r))
  pub push_clip_i : (c : Canvas) (b : IRect) → Sound c → push_box_number c ≡ 0 → Sound (pushed c b)
  pub pop_clip : (c : Canvas) → Sound c → Sound (popped c)
  -- no call refuses a sound state for itself
  pub state : (c : Canvas) → Sound c → state_number c ≡ 0
