-- A canvas within a wider frame.
--     fifteen_first         the order of 15 and 8
--     pitch_of, in_pitch    a pitch that is not refused
--     frame_of, in_frame    .. and px in its rows
--     row_below             every word is in one of the rows
--     framed_area           the first w words of each row are the area of the canvas
--     framed_margin         a word past them is left
--     framed_whole          rows that are no longer than the canvas: every word
-- Assumes nothing.
use mathlib.Core.Path.{◌≡◌, refl, sym, ap, ◌∙◌}
use mathlib.Core.Bool.{Bool, true, false, cond, ◌&&◌}
use mathlib.Core.List.{List}
use Prim.Native.Nat.{ℕ, zero, suc, ◌*◌, ◌/◌, ◌%◌, ◌≤◌, ◌<◌}
use native.Mathlib.Nat.{mod-lt, div-lt_iff_lt-mul, mul_comm, zero-mul}
use native.Mathlib.Omega.{arith}
use lib.Dec.{leb, ltb, eqb}
use lib.ListN.{length, get_or, replicate, length-replicate, get_or-replicate}
use lib.Seq.{ext_get_or}
use borrow.Author.Tests.{leb-true, eqb-true, eq-eqb, lt-ltb, le-ltb, le-leb}
use Rattle.geom.proofs.Bools.{and_left, and_right}
use Rattle.geom.proofs.Refusals.{passed, then_open}
use Rattle.draw.specs.Frame.{pitch_ok, pitch_number, frame_number, framed}
use Rattle.draw.specs.Areas.{within, in_area, area, drawn_in}
use Rattle.draw.proofs.Onto.{length_onto, get_d_onto, onto_is}
use Rattle.draw.proofs.Rows.{within_in, drawn_at, length_drawn}

-- 15 comes before 8: it is given whatever the length of px is
pub fifteen_first : (w h pitch n : ℕ) → pitch_number w pitch ≡ 15 → frame_number w h pitch n ≡ 15
unfolding frame_number
fifteen_first w h pitch n e = rw e

pub record Pitch (w pitch : ℕ) : Type 0 where
  pub room : w ≤ pitch
  pub most : pitch ≤ 4096

pub pitch_of : (w pitch : ℕ) → pitch_number w pitch ≡ 0 → Pitch w pitch
unfolding pitch_number pitch_ok
pitch_of w pitch e =
    let t = (passed (leb w pitch && leb pitch 4096) 14 0 e).0 in
    record { room = leb-true w pitch (and_left (leb w pitch) (leb pitch 4096) t); most = leb-true pitch 4096 (and_right (leb w pitch) (leb pitch 4096) t) }

pub in_pitch : {w pitch : ℕ} → Pitch w pitch → pitch_number w pitch ≡ 0
unfolding pitch_number pitch_ok
in_pitch {w} {pitch} p = rw (le-leb w pitch p.room, le-leb pitch 4096 p.most)

pub record Frame (w h pitch n : ℕ) : Type 0 where
  pub rows : Pitch w pitch
  pub long : n ≡ pitch * h

pub frame_of : (w h pitch n : ℕ) → frame_number w h pitch n ≡ 0 → Frame w h pitch n
unfolding frame_number
frame_of w h pitch n e =
    let t = then_open (pitch_number w pitch) _ e in
    record { rows = pitch_of w pitch t.0; long = eqb-true n (pitch * h) (passed (eqb n (pitch * h)) 7 0 t.1).0 }

pub in_frame : {w h pitch n : ℕ} → Frame w h pitch n → frame_number w h pitch n ≡ 0
unfolding frame_number
in_frame {w} {h} {pitch} {n} f = rw (in_pitch f.rows, eq-eqb n (pitch * h) f.long)

-- every word of px is in one of the h rows
pub row_below : (pitch h n i : ℕ) → n ≡ pitch * h → i < n → i / pitch < h
row_below zero h n i e k = absurd (omega (arith, e, zero-mul h))
row_below (suc p) h n i e k = (div-lt_iff_lt-mul {k = suc p} {x = i} {y = h} (omega arith)).1 (rw (e, mul_comm (suc p) h) at k)

-- the columns from 0 on
columns : (w x : ℕ) → within 0 w x ≡ ltb x w
unfolding within
columns w x = rw (le-leb 0 x (omega arith))

pub framed_area : (pitch w h v : ℕ) (px : List ℕ) → length px ≡ pitch * h
    → drawn_in pitch (area 0 0 w h) (λ _ _ _. v) px ≡ framed pitch w v px
unfolding framed
framed_area pitch w h v px e =
    onto_is (λ i. ltb (i % pitch) w) (λ i p. v) px _ (length_drawn pitch (λ _ _ _. v) px (area 0 0 w h))
    (λ k l. drawn_at pitch (λ _ _ _. v) px (area 0 0 w h) k l ∙ ap (λ (t : Bool). cond t v (get_or px k 0)) (at k l))
  where
    both : (t : Bool) → (t && true) ≡ t
    both true = refl
    both false = refl

    at : (k : ℕ) → k < length px → in_area (area 0 0 w h) (k % pitch) (k / pitch) ≡ ltb (k % pitch) w
    at k l = rw (within_in 0 h (k / pitch) (omega arith) (row_below pitch h (length px) k e l)) (both (within 0 w (k % pitch)) ∙ columns w (k % pitch))

-- a word of px past the first w of its row is left
pub framed_margin : (pitch w v : ℕ) (px : List ℕ) (i : ℕ) → i < length px → w ≤ i % pitch → get_or (framed pitch w v px) i 0 ≡ get_or px i 0
unfolding framed
framed_margin pitch w v px i h k = get_d_onto (λ i. ltb (i % pitch) w) (λ i p. v) px i h ∙ rw (le-ltb (i % pitch) w k)

-- rows that are no longer than the canvas: every word is set
pub framed_whole : (w v : ℕ) (px : List ℕ) → 0 < w → framed w w v px ≡ replicate (length px) v
unfolding framed
framed_whole w v px p =
    ext_get_or 0 _ (replicate (length px) v) (length_onto (λ i. ltb (i % w) w) (λ i p. v) px ∙ sym (length-replicate (length px) v))
    (λ i l. let h : i < length px = omega (arith, length_onto (λ i. ltb (i % w) w) (λ i p. v) px) in
    get_d_onto (λ i. ltb (i % w) w) (λ i p. v) px i h ∙ rw (lt-ltb (i % w) w (mod-lt i p), get_or-replicate (length px) i v 0 h))
