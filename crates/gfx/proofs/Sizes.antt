-- Sides, pitches, counts of words and the index of a pixel. Assumes nothing.
use mathlib.Core.Path.{◌≡◌}
use mathlib.Core.Bool.{Bool, true, false, cond, ◌&&◌}
use Prim.Native.Nat.{ℕ, ◌+◌, ◌*◌, ◌-◌, ◌<◌, ◌≤◌, min, max}
use native.Mathlib.Nat.{mul-le-mul, mul_comm}
use native.Mathlib.Omega.{arith}
use borrow.Author.Tests.{ltb-true, ltb-false}
use lib.Arith.{digits_lt}
use lib.Dec.{ltb}
use lib.IntN.{ℤ}
use Rattle.geom.proofs.Bools.{split, and_left, and_right}
use Rattle.geom.proofs.Refusals.{passed, then_open}
use Rattle.geom.specs.Int.{up}
use Rattle.geom.specs.Plane.{rect_ok}
use Rattle.geom.specs.declared.Rect.{Rect}
use Rattle.draw.proofs.Frame.{Pitch, Frame, pitch_of, frame_of, in_frame}
use Rattle.gfx.proofs.Valid.{side_of, valid_of_lem}
use Rattle.gfx.specs.State.{side_ok, valid_of}
use Rattle.gfx.specs.Calls.{unless, and_then, raised, size_number, new_number, resize_number, state_number, px_number, shape_number, nearest_in, push_box_number, push_number}
use Rattle.gfx.specs.declared.Canvas.{Canvas}

-- ---- accepted calls

-- a state that is not refused
pub record InRange (c : Canvas) : Type 0 where
  pub valid : valid_of c ≡ true
  pub rows : Pitch (up c.w) c.pitch

pub state_open : (c : Canvas) → state_number c ≡ 0 → InRange c
unfolding state_number
state_open c e =
    let v = passed (valid_of c) 11 _ e in
    record { valid = v.0; rows = pitch_of (up c.w) c.pitch v.1 }

-- a canvas and a count of words that are not refused
pub record Open (c : Canvas) (n : ℕ) : Type 0 where
  pub valid : valid_of c ≡ true
  pub frame : Frame (up c.w) (up c.h) c.pitch n

pub open_of : (c : Canvas) (n : ℕ) → px_number c n ≡ 0 → Open c n
unfolding px_number
open_of c n e =
    let v = passed (valid_of c) 11 _ e in
    record { valid = v.0; frame = frame_of (up c.w) (up c.h) c.pitch n v.1 }

pub open_number : {c : Canvas} {n : ℕ} → Open c n → px_number c n ≡ 0
unfolding px_number
open_number o = rw (o.valid, in_frame o.frame)

pub open_small : {c : Canvas} {n : ℕ} → Open c n → n ≤ 8388608
open_small {c} o =
    let v = valid_of_lem c o.valid in
    rw o.frame.long (mul-le-mul o.frame.rows.most (side_of c.h v.side_h).high)

-- ---- sizes that are not refused

-- 2 comes before 15 and 8
pub two_first : (least : ℕ) (w h : ℤ) (pitch n : ℕ) → (side_ok w && side_ok h) ≡ false → size_number least w h pitch n ≡ 2
unfolding size_number
two_first least w h pitch n e = rw e

pub record Sized (w h : ℤ) (least pitch n : ℕ) : Type 0 where
  pub side_w : side_ok w ≡ true
  pub side_h : side_ok h ≡ true
  pub frame : Frame least (up h) pitch n

pub size_open : (least : ℕ) (w h : ℤ) (pitch n : ℕ) → size_number least w h pitch n ≡ 0 → Sized w h least pitch n
unfolding size_number
size_open least w h pitch n e =
    let t = passed (side_ok w && side_ok h) 1 _ e in
    record {
      side_w = and_left (side_ok w) (side_ok h) t.0;
      side_h = and_right (side_ok w) (side_ok h) t.0;
      frame = frame_of least (up h) pitch n t.1;
    }

-- a pitch with room for the width that a state has and for the one wanted has room for the latter
pub resize_new : (c : Canvas) (w h : ℤ) (n : ℕ) → resize_number c w h n ≡ 0 → new_number w h c.pitch n ≡ 0
unfolding resize_number size_number
resize_new c w h n e =
    let z = size_open (max (up c.w) (up (raised w))) (raised w) (raised h) c.pitch n (passed (valid_of c) 11 _ e).1 in
    let r = z.frame.rows in
    rw (z.side_w, z.side_h) (in_frame (record { rows = record { room = omega (arith, r.room); most = r.most }; long = z.frame.long }))

-- the pixel nearest to x and y is one of the canvas
pub near_below : (n x : ℤ) → 0 < up n → nearest_in n x < up n
unfolding nearest_in
near_below n x h =
    split (ltb (up x) (up n)) (λ t. cond t (up x) (up n - 1) < up n) (λ e. ltb-true (up x) (up n) e) (λ e. omega arith)

pub pixel_in_lem : (c : Canvas) (n : ℕ) (x y : ℤ) → Open c n → nearest_in c.h y * c.pitch + nearest_in c.w x < n
pixel_in_lem c n x y o =
    let v = valid_of_lem c o.valid in
    let wide = side_of c.w v.side_w in
    let tall = side_of c.h v.side_h in
    let column : nearest_in c.w x < c.pitch = omega (arith, near_below c.w x wide.low, o.frame.rows.room) in
    rw (o.frame.long, mul_comm c.pitch (up c.h)) (digits_lt (near_below c.h y tall.low) column)

-- as `min` has it
pub nearest_is : (n x : ℤ) → nearest_in n x ≡ min (up x) (up n - 1)
unfolding nearest_in
nearest_is n x =
    split (ltb (up x) (up n)) (λ t. cond t (up x) (up n - 1) ≡ min (up x) (up n - 1)) (λ e. omega (arith, ltb-true (up x) (up n) e))
    (λ e. omega (arith, ltb-false (up x) (up n) e))

-- ---- room for a clip

pub push_box_room : (c : Canvas) → push_box_number c ≡ 0 → c.depth < 16
unfolding push_box_number
push_box_room c e =
    ltb-true c.depth 16 (passed (ltb c.depth 16) 6 0 (then_open (state_number c) _ e).1).0

pub push_room : (c : Canvas) (r : Rect) → push_number c r ≡ 0 → c.depth < 16
unfolding push_number
push_room c r e =
    let f = passed (rect_ok r) 5 _ (then_open (state_number c) _ e).1 in
    ltb-true c.depth 16 (passed (ltb c.depth 16) 6 0 f.1).0

-- ---- shape calls: by the tests of state and px, and then by the rest

-- a call that is not refused
pub px_open : (c : Canvas) (n rest : ℕ) → and_then (px_number c n) rest ≡ 0 → Open c n × (rest ≡ 0)
px_open c n rest e = let t = then_open (px_number c n) rest e in (open_of c n t.0, t.1)

pub shape_open : (c : Canvas) (n : ℕ) (ok : Bool) → shape_number c n ok ≡ 0 → Open c n
unfolding shape_number
shape_open c n ok e = (px_open c n (unless ok 6 0) e).0
