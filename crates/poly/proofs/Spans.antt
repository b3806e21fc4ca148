-- Columns and rows of the canvas in the box: where they lie in it, and that those which a clip lets through lie in it. Assumes nothing.
use mathlib.Core.Path.{◌≡◌, sym, ap, subst, ◌∙◌}
use mathlib.Core.Bool.{true, cond}
use mathlib.Core.List.{List}
use Prim.Native.Nat.{ℕ, ◌+◌, ◌-◌, ◌*◌, ◌<◌, ◌≤◌}
use native.Mathlib.Omega.{arith}
use lib.IntN.{ℤ, pos, ◌+ℤ◌, ◌-ℤ◌}
use lib.Signed.{le_z}
use lib.ListN.{get_or}
use lib.Ieee.{Float, nan}
use Rattle.mathf.specs.F32.{◌+ᶠ◌}
use Rattle.geom.specs.Int.{up}
use Rattle.geom.specs.Box.{meet, empty}
use Rattle.geom.specs.declared.IRect.{IRect}
use Rattle.geom.proofs.Bools.{split}
use Rattle.geom.proofs.Int.{order_z}
use Rattle.geom.proofs.Boxes.{cut_in}
use Rattle.color.specs.Inks.{over_c}
use Rattle.color.proofs.Overs.{over_c_idle}
use Rattle.color.specs.declared.Color.{Color}
use Rattle.draw.specs.Areas.{area, area_of, clip_to}
use Rattle.draw.specs.declared.Area.{Area}
use Rattle.paints.specs.Paints.{paint_at, centre_of}
use Rattle.paints.specs.declared.Paint.{Paint}
use Rattle.bounds.specs.Bounds.{reach_of}
use Rattle.bounds.proofs.Parts.{one_sided, sum_parts, difference_parts}
use Rattle.bounds.specs.declared.PolyBox.{PolyBox}
use Rattle.poly.specs.Poly.{offset_of, run_sum, cover_of, ink_in, area_at}
use Rattle.poly.specs.Rooms.{Over, colour_in, ink_from}
use Rattle.poly.proofs.Turns.{run_sum_more}

-- ---- where a column lies in the box

module _ (o : ℤ) (x0 x : ℕ) (h : le_z o (pos x0) ≡ true) (l : x0 ≤ x) where
  pub offset_more : offset_of x0 o + (x - x0) ≡ offset_of x o
  offset_more =
      let p = difference_parts (pos x0) o in
      let q = difference_parts (pos x) o in
      omega (order_z, h, l, p, q, one_sided o, one_sided (pos x0 -ℤ o), one_sided (pos x -ℤ o))

pub over_part : {o : ℤ} {n a b : ℕ} (y : ℕ) → Over o n a b → a ≤ y → y < b → Over o n y (y + 1)
over_part {o} {n} {a} {b} y v l u =
    let m = offset_more o a y v.from l in
    record { from = omega (order_z, v.from); to = omega (arith, m, v.to) }

-- ---- what a clip lets through of the box lies in it

over : (o : ℤ) (n : ℕ) (a b : ℤ) → le_z o a ≡ true → le_z b (o +ℤ pos n) ≡ true → up a < up b → Over o n (up a) (up b)
over o n a b h k l =
    let f : le_z o (pos (up a)) ≡ true = omega (order_z, h) in
    let m = offset_more o (up a) (up b) f (omega arith) in
    let p = difference_parts (pos (up b)) o in
    let q = sum_parts o (pos n) in
    record { from = f; to = omega (order_z, m, p, q, k, one_sided b, one_sided o, one_sided (pos (up b) -ℤ o), one_sided (o +ℤ pos n)) }

pub clip_over : (g : PolyBox) (clip : IRect) (b : Area) → b ≡ clip_to (reach_of g) clip → b.x0 < b.x1 → b.y0 < b.y1
    → Over g.ox g.bw b.x0 b.x1 × Over g.oy g.bh b.y0 b.y1
unfolding clip_to
clip_over g clip b e = subst (λ (a : Area). a.x0 < a.x1 → a.y0 < a.y1 → Over g.ox g.bw a.x0 a.x1 × Over g.oy g.bh a.y0 a.y1) (sym e) here
  where
    m : IRect
    m = meet (reach_of g) clip

    In : Area → Type 0
    In a = a.x0 < a.x1 → a.y0 < a.y1 → Over g.ox g.bw a.x0 a.x1 × Over g.oy g.bh a.y0 a.y1

    here : In (cond (empty m) (area 0 0 0 0) (area_of m))
    here =
        split (empty m) (λ t. In (cond t (area 0 0 0 0) (area_of m))) (λ f l k. absurd (omega arith))
        (λ f l k. let w = (cut_in (reach_of g) clip f).0 in (over g.ox g.bw m.x0 m.x1 w.left w.right l, over g.oy g.bh m.y0 m.y1 w.top w.bottom k))

-- ---- a pixel by its row's words

-- a is the sum so far; a turn adds the word of column x
pub turn_sum : (acc : List Float) (ls skip x0 x : ℕ) (a : Float) → a ≡ run_sum acc ls (skip + (x - x0))
    → a +ᶠ get_or acc (ls + (skip + (x - x0))) nan ≡ run_sum acc ls (skip + (x - x0) + 1)
turn_sum acc ls skip x0 x a e = ap (λ (t : Float). t +ᶠ get_or acc (ls + (skip + (x - x0))) nan) e ∙ sym (run_sum_more acc ls (skip + (x - x0)))

-- and is at the next column
pub turn_more : (acc : List Float) (ls skip x0 x : ℕ) → x0 ≤ x → run_sum acc ls (skip + (x - x0) + 1) ≡ run_sum acc ls (skip + (x + 1 - x0))
turn_more acc ls skip x0 x l = let n : skip + (x - x0) + 1 ≡ skip + (x + 1 - x0) = omega arith in ap (run_sum acc ls) n

module _ (acc : List Float) (ls skip x0 : ℕ) (colour : ℕ → Color) (x y p : ℕ) {a : Float} {cv : ℕ} (s : a ≡ run_sum acc ls (skip + (x - x0) + 1)) (e : cv ≡ cover_of a) where
  pub ink_by : over_c p (colour x) cv ≡ ink_from acc ls skip x0 colour x y p
  unfolding ink_from
  ink_by = ap (over_c p (colour x)) (e ∙ ap cover_of s)

  pub ink_none : cv ≡ 0 → p ≡ ink_from acc ls skip x0 colour x y p
  ink_none z = over_c_idle p (colour x) cv z ∙ ink_by

-- the same by a paint that agrees in the row
pub ink_in_lem : (acc : List Float) (g : PolyBox) (here paint : Paint) (x0 y x p : ℕ) → le_z g.ox (pos x0) ≡ true → x0 ≤ x
    → ((c : Float) → paint_at here c (centre_of y) ≡ paint_at paint c (centre_of y))
    → ink_from acc (offset_of y g.oy * (g.bw + 2)) (offset_of x0 g.ox) x0 (colour_in here y) x y p ≡ ink_in acc g paint x y p
unfolding ink_from ink_in area_at
ink_in_lem acc g here paint x0 y x p h l e = rw (offset_more g.ox x0 x h l, e (centre_of x))
