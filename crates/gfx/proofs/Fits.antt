-- What a shape draws on a canvas that is not refused lies within px. Assumes nothing.
use mathlib.Core.Path.{◌≡◌, sym, ap, ◌∙◌}
use mathlib.Core.Bool.{Bool, true, false, cond, true≢false}
use mathlib.Core.List.{List, ◌++◌}
use mathlib.Core.Logic.{◌⊎◌}
use Prim.Native.Nat.{ℕ, ◌+◌, ◌-◌, ◌*◌, ◌/◌, ◌%◌, ◌<◌, ◌≤◌}
use native.Mathlib.Nat.{le_of_eq, mul_comm, div-add-mod'}
use native.Mathlib.Omega.{arith}
use lib.IntN.{ℤ, pos}
use Rattle.geom.specs.declared.IRect.{IRect}
use Rattle.geom.specs.Int.{up}
use Rattle.geom.specs.Box.{empty}
use Rattle.geom.proofs.Boxes.{Within}
use borrow.Rule.Slice.PartMut.{put_mid}
use lib.Arith.{digits_div, digits_mod}
use lib.Dec.{ltb}
use lib.ListN.{length, get_or, take, drop, replicate, get_or-append}
use lib.Seq.{get_or-append_right}
use borrow.Author.Tests.{ltb-true, ltb-false}
use Rattle.std.proofs.lemmas.List.{length-take-le, length-append, length-drop, length-replicate, get_or-take, get_or-drop, get_or-replicate}
use Rattle.geom.proofs.Bools.{and_left, and_right, and_both, split}
use Rattle.draw.specs.Areas.{area, clip_to, in_area, within, drawn_in, RowFits, AreaFits}
use Rattle.draw.proofs.Onto.{onto_is}
use Rattle.draw.proofs.Rows.{within_true, within_in}
use Rattle.draw.proofs.Clips.{clip_fits}
use Rattle.gfx.proofs.Valid.{side_of, frame, clip_cases, valid_of_lem}
use Rattle.gfx.proofs.Sizes.{Open}
use Rattle.draw.proofs.Frame.{Frame}
use Rattle.gfx.specs.State.{side_ok}
use Rattle.gfx.specs.declared.Canvas.{Canvas}

pub canvas_fits : (c : Canvas) (n : ℕ) (reach : IRect) → Open c n → AreaFits c.pitch (clip_to reach c.clip) n
canvas_fits c n reach o =
    let v = valid_of_lem c o.valid in
    let w = side_of c.w v.side_w in
    let h = side_of c.h v.side_h in
    let k : (empty c.clip ≡ true) ⊎ Within (frame (pos (up c.w)) (pos (up c.h))) c.clip =
    rw (w.is, h.is) at (clip_cases c.w c.h c.clip v.clip) in
    clip_fits c.pitch (up c.w) (up c.h) n reach c.clip k o.frame.rows.room w.high h.high
    (le_of_eq (sym (o.frame.long ∙ mul_comm c.pitch (up c.h))))

-- the pixels of a canvas of w columns and h rows that is not refused, and all of px
pub rows_fit : (w h : ℤ) (pitch n : ℕ) → side_ok w ≡ true → side_ok h ≡ true → Frame (up w) (up h) pitch n
    → AreaFits pitch (area 0 0 (up w) (up h)) n × (n ≡ pitch * up h)
rows_fit w h pitch n p q f = (
  record {
    across = omega arith;
    down = omega arith;
    right = f.rows.room;
    bottom = le_of_eq (sym (f.long ∙ mul_comm pitch (up h)));
    wide = (side_of w p).high;
    high = (side_of h q).high;
  },
  f.long,
)

-- a part of px written anew: what is before it, in it and past it
module _ (a k : ℕ) (px ys : List ℕ) (h : a + k ≤ length px) (f : length ys ≡ k) where
  before : length (take a px) ≡ a
  before = length-take-le a px (omega arith)

  length_part : length (put_mid a k px ys) ≡ length px
  length_part =
      omega (arith, before, f, length-append (take a px) (ys ++ drop k (drop a px)), length-append ys (drop k (drop a px)), length-drop k (drop a px), length-drop a px)

  part_before : (i : ℕ) → i < a → get_or (put_mid a k px ys) i 0 ≡ get_or px i 0
  part_before i l = get_or-append (take a px) (ys ++ drop k (drop a px)) 0 i (omega (arith, before)) ∙ get_or-take a px i 0 l

  part_in : (i : ℕ) → a ≤ i → i < a + k → get_or (put_mid a k px ys) i 0 ≡ get_or ys (i - a) 0
  part_in i l u =
      get_or-append_right (take a px) (ys ++ drop k (drop a px)) i 0 (omega (arith, before))
      ∙ rw before (get_or-append ys (drop k (drop a px)) 0 (i - a) (omega (arith, f)))

  part_past : (i : ℕ) → a + k ≤ i → get_or (put_mid a k px ys) i 0 ≡ get_or px i 0
  part_past i l =
      get_or-append_right (take a px) (ys ++ drop k (drop a px)) i 0 (omega (arith, before))
      ∙ rw before
      (get_or-append_right ys (drop k (drop a px)) (i - a) 0 (omega (arith, f))
      ∙ rw f (get_or-drop k (drop a px) (i - a - k) 0 ∙ get_or-drop a px (k + (i - a - k)) 0 ∙ ap (λ (m : ℕ). get_or px m 0) (omega arith)))

-- the first w words of row y, filled
pub row_filled : (pitch y w k v : ℕ) (px ys : List ℕ) → RowFits pitch y 0 w (length px) → k ≡ w
    → ys ≡ replicate (length (take k (drop (y * pitch) px))) v → put_mid (y * pitch) k px ys ≡ drawn_in pitch (area 0 y w (y + 1)) (λ _ _ _. v) px
unfolding drawn_in
row_filled pitch y w k v px ys r e g =
    onto_is (λ i. at (i % pitch) (i / pitch)) (λ i p. v) px (put_mid a k px ys) (length_part a k px ys room many)
    (λ i l. split (at (i % pitch) (i / pitch)) (λ t. get_or (put_mid a k px ys) i 0 ≡ cond t v (get_or px i 0)) (filled i) (left i))
  where
    a : ℕ
    a = y * pitch

    at : ℕ → ℕ → Bool
    at x z = in_area (area 0 y w (y + 1)) x z

    f : ys ≡ replicate w v
    f =
        g
        ∙ ap (λ (m : ℕ). replicate m v)
        (length-take-le k (drop a px) (omega (arith, e, r.right, r.room, length-drop a px)) ∙ e)

    many : length ys ≡ k
    many = ap length f ∙ length-replicate w v ∙ sym e

    room : y * pitch + k ≤ length px
    room = omega (arith, r.right, r.room, e)

    filled : (i : ℕ) → at (i % pitch) (i / pitch) ≡ true → get_or (put_mid a k px ys) i 0 ≡ v
    filled i q =
        let x = within_true 0 w (i % pitch) (and_left _ _ q) in
        let z = within_true y (y + 1) (i / pitch) (and_right (within 0 w (i % pitch)) _ q) in
        let row : i / pitch ≡ y = omega arith in
        let s : y * pitch + i % pitch ≡ i = rw row at (div-add-mod' i pitch) in
        part_in a k px ys room many i (omega arith) (omega (arith, e))
        ∙ rw f (get_or-replicate w (i - y * pitch) v 0 (omega arith))

    left : (i : ℕ) → at (i % pitch) (i / pitch) ≡ false → get_or (put_mid a k px ys) i 0 ≡ get_or px i 0
    left i q =
        split (ltb i a) (λ _. get_or (put_mid a k px ys) i 0 ≡ get_or px i 0) (λ l. part_before a k px ys room many i (ltb-true i a l))
        (λ g. split (ltb i (a + k)) (λ _. get_or (put_mid a k px ys) i 0 ≡ get_or px i 0) (λ l. absurd (inner (ltb-false i a g) (ltb-true i (a + k) l)))
        (λ l. part_past a k px ys room many i (ltb-false i (a + k) l)))
      where
        inner : y * pitch ≤ i → i < y * pitch + k → ⊥
        inner l u =
            let x : i - y * pitch < pitch = omega (arith, e, r.right) in
            let s : y * pitch + (i - y * pitch) ≡ i = omega arith in
            let m : i % pitch ≡ i - y * pitch = rw s at (digits_mod y x) in
            let d : i / pitch ≡ y = rw s at (digits_div y x) in
            true≢false (sym (and_both (within_in 0 w (i % pitch) (omega arith) (omega (arith, e))) (within_in y (y + 1) (i / pitch) (omega arith) (omega arith))) ∙ q)
