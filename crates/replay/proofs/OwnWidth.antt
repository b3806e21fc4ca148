-- At a pitch that is the canvas's width, numbers, pixels and outcomes are those of a canvas without a frame: px is w × h words, none is past the
-- canvas, and 15 is not given. Assumes nothing.
use mathlib.Core.Path.{◌≡◌, refl, ap, ◌∙◌}
use mathlib.Core.Bool.{Bool, true, false, cond, ◌&&◌}
use mathlib.Core.List.{List}
use Prim.Native.Nat.{ℕ, ◌*◌, ◌≤◌}
use native.Mathlib.Omega.{arith}
use lib.Dec.{leb, eqb}
use lib.IntN.{ℤ}
use lib.ListN.{length, replicate}
use borrow.Author.Tests.{leb-true}
use Rattle.geom.specs.Int.{up}
use Rattle.geom.specs.Refusals.{unless}
use Rattle.geom.proofs.Bools.{split, and_left, and_right}
use Rattle.draw.specs.Frame.{pitch_number, frame_number, framed}
use Rattle.draw.proofs.Frame.{in_pitch, framed_whole}
use Rattle.gfx.specs.declared.Canvas.{Canvas}
use Rattle.gfx.specs.State.{side_ok, valid_of}
use Rattle.gfx.specs.Calls.{raised, size_number, new_number, state_number, px_number, cleared_to}
use Rattle.gfx.proofs.Valid.{side_of, valid_of_lem}
use Rattle.redraw.specs.Sheet.{Sheet, read, refuses, draws, canvas, draws_unless, lent, paint_of, painting, fresh}
use Rattle.redraw.specs.Calls.{Shown}
use Rattle.redraw.proofs.Frames as frames
use Rattle.sheet.specs.Check.{width_of}
use Rattle.sheet.proofs.Accepted.{accepted}
use Rattle.items.specs.Format.{kind, reading, needs, format}
use Rattle.items.proofs.Readings.{read_is}

-- ---- the canvas calls

own_pitch : (w pitch : ℕ) → pitch ≡ w → w ≤ 2048 → pitch_number w pitch ≡ 0
own_pitch w pitch e h = in_pitch (record { room = omega arith; most = omega arith })

own_frame : (w h pitch n : ℕ) → pitch ≡ w → w ≤ 2048 → frame_number w h pitch n ≡ unless (eqb n (w * h)) 8 0
unfolding frame_number
own_frame w h pitch n e k = rw (own_pitch w pitch e k, e)

module _ (c : Canvas) (own : c.pitch ≡ up c.w) where
  narrow : valid_of c ≡ true → up c.w ≤ 2048
  narrow e = (side_of c.w (valid_of_lem c e).side_w).high

  pub state_own : state_number c ≡ unless (valid_of c) 12 0
  unfolding state_number
  state_own =
      split (valid_of c) (λ t. cond t (pitch_number (up c.w) c.pitch) 12 ≡ cond t 0 12)
      (λ e. own_pitch (up c.w) c.pitch own (narrow e)) (λ e. refl)

  pub px_own : (n : ℕ) → px_number c n ≡ unless (valid_of c) 12 (unless (eqb n (up c.w * up c.h)) 8 0)
  unfolding px_number
  px_own n =
      split (valid_of c) (λ t. cond t (frame_number (up c.w) (up c.h) c.pitch n) 12 ≡ cond t (unless (eqb n (up c.w * up c.h)) 8 0) 12)
      (λ e. own_frame (up c.w) (up c.h) c.pitch n own (narrow e)) (λ e. refl)

  pub clear_own : (v : ℕ) (px : List ℕ) → valid_of c ≡ true → cleared_to c v px ≡ replicate (length px) v
  clear_own v px e =
      ap (λ (p : ℕ). framed p (up c.w) v px) own ∙ framed_whole (up c.w) v px (side_of c.w (valid_of_lem c e).side_w).low

pub new_own : (w h : ℤ) (n : ℕ) → new_number w h (up (raised w)) n
    ≡ unless (side_ok (raised w) && side_ok (raised h)) 2 (unless (eqb n (up (raised w) * up (raised h))) 8 0)
unfolding size_number
new_own w h n =
    split (side_ok (raised w) && side_ok (raised h)) (λ t. cond t (frame_number (up (raised w)) (up (raised h)) (up (raised w)) n) 2 ≡ cond t (unless (eqb n (up (raised w) * up (raised h))) 8 0) 2)
    (λ e. own_frame (up (raised w)) (up (raised h)) _ n refl (side_of (raised w) (and_left (side_ok (raised w)) (side_ok (raised h)) e)).high) (λ e. refl)

-- ---- sheets

module _ (sheet : List ℕ) (s : Sheet (List ℕ)) (r : reading sheet ≡ read s) where
  narrow_sheet : s.w ≤ 2048
  narrow_sheet =
      let q = read_is sheet s r in
      rw q.1 (leb-true (width_of sheet) 2048 (and_right (leb 1 (width_of sheet)) (leb (width_of sheet) 2048) (accepted sheet q.0).width))

  pub paint_own : (pl sl : ℕ) → painting format sheet s.w pl sl
      ≡ cond (eqb pl (s.w * s.h)) (cond (leb (needs s.items) sl) (draws s (canvas s)) (refuses 9 0)) (refuses 8 0)
  unfolding painting paint_of lent draws_unless
  paint_own pl sl =
      rw (r, frames.own_width format s pl sl (omega (arith, narrow_sheet))) (by (eqb pl (s.w * s.h)) (leb (needs s.items) sl))
    where
      by : (t u : Bool)
          → cond (eqb (unless t 8 (unless u 9 0)) 0) (draws s (canvas s)) (refuses (unless t 8 (unless u 9 0)) 0)
          ≡ cond t (cond u (draws s (canvas s)) (refuses 9 0)) (refuses 8 0)
      by true true = refl
      by true false = refl
      by false u = refl

  -- px that shows the sheet is its fresh painting, word for word
  pub shown_own : (before px : List ℕ) → Shown format s.w before sheet px → px ≡ fresh kind s
  shown_own before px t = frames.shown_whole format before sheet px s r t
