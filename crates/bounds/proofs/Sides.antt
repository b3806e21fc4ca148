-- A box has two columns and two rows or more, since no floor of a least coordinate is above the ceiling of a greatest: the Rust's test for
-- a side of 0 says nothing. Assumes nothing.
use mathlib.Core.Path.{◌≡◌, refl}
use mathlib.Core.Bool.{Bool, true, false, cond}
use mathlib.Core.List.{List}
use Prim.Native.Nat.{ℕ, zero, suc, ◌+◌, ◌-◌, ◌*◌, ◌/◌, ◌^◌, ◌<◌, ◌≤◌, zero-le}
use native.Mathlib.Nat.{le_trans, le_of_eq, le-add_right, mul_right_comm, mul-le-mul_right, le_of_mul-le-mul_right, div-mul-le_self, le-div_iff_mul-le}
use native.Mathlib.Omega.{arith}
use lib.Dec.{T, lit≤}
use lib.IntN.{pos, neg_ℤ, ◌+ℤ◌, ◌-ℤ◌}
use lib.Signed.{le_z}
use lib.Ieee.{Float, nan, inf, fin, up, down, lt, le, eq, ne, neg}
use lib.Ieee.Fits.{down_pos}
use lib.Ieee.Scale.{finite}
use borrow.Author.Tests.{le-leb, eq-eqb}
use Rattle.mathf.specs.Order.{min_of, max_of}
use Rattle.mathf.specs.Whole.{floor_of, ceil_of, cut_down, taken_up}
use Rattle.mathf.specs.Convert.{to_i32}
use Rattle.mathf.proofs.Bounds.{signed_whole, cut_le, taken_le}
use Rattle.mathf.proofs.Compared.{at_most, le_same, le_through, or_l, left_zero, right_zero}
use Rattle.geom.proofs.Int.{order_z}
use Rattle.gfx.specs.Points.{coords_ok}
use Rattle.bounds.specs.Bounds.{point_count, f_max, extent_of, origin_of, span_of, poly_box}
use Rattle.bounds.specs.Plans.{Ranged}
use Rattle.bounds.specs.declared.Extent.{Extent}
use Rattle.bounds.proofs.Boxed.{Small, below_max, above_min, Close, coordinate, extent_close, last}
use Rattle.bounds.proofs.Parts.{one_sided, sum_parts, difference_parts}

-- ---- a floor and a ceiling, as whole numbers

-- a / d cut down is at most b / f taken up
between : (a d b f : ℕ) → 0 < d → 0 < f → a * f ≤ b * d → cut_down a d ≤ taken_up b f
between a d b f p q h =
    let m : a / d * f * d ≤ b * d = le_trans (le_of_eq (mul_right_comm (a / d) f d)) (le_trans (mul-le-mul_right f (div-mul-le_self a d)) h) in
    (le-div_iff_mul-le q).1 (le_trans (le_of_mul-le-mul_right m p) (le-add_right b (f - 1)))

none : (a d f : ℕ) → 0 < d → 0 < f → a * f ≤ 0 → cut_down a d ≡ 0
none a d f p q h =
    let z : a ≤ 0 = le_of_mul-le-mul_right (le_trans h zero-le) q in
    let k : cut_down a d ≤ 0 = cut_le a d 0 p (le_trans z zero-le) in
    omega arith

neg_pos : (a b : ℕ) → le_z (neg_ℤ (pos a)) (pos b) ≡ true
neg_pos zero b = le-leb 0 b zero-le
neg_pos (suc a) b = refl

neg_neg : (a b : ℕ) → b ≤ a → le_z (neg_ℤ (pos a)) (neg_ℤ (pos b)) ≡ true
neg_neg zero zero h = refl
neg_neg zero (suc b) h = absurd (omega arith)
neg_neg (suc a) zero h = refl
neg_neg (suc a) (suc b) h = le-leb b a (omega arith)

-- a size of at most 8,192, cut down or taken up, is a whole number that an f32 has
cut_small : (a d : ℕ) → 0 < d → a ≤ 8192 * d → cut_down a d ≤ 2 ^ 24
cut_small a d p h = le_trans (cut_le a d 8192 p h) (lit≤ tt)

taken_small : (a d : ℕ) → 0 < d → a ≤ 8192 * d → taken_up a d ≤ 2 ^ 24
taken_small a d p h = le_trans (taken_le a d 8192 p h) (lit≤ tt)

floor_ceil : (x y : Float) → Small x → Small y → T (le x y) → le_z (to_i32 (floor_of x)) (to_i32 (ceil_of y)) ≡ true
unfolding floor_of ceil_of le lt eq
floor_ceil nan y s t h = absurd s
floor_ceil (inf u) y s t h = absurd s
floor_ceil (fin u m e) nan s t h = absurd t
floor_ceil (fin u m e) (inf v) s t h = absurd t
floor_ceil (fin false m e) (fin false n d) s t h =
    let a = m * up e in
    let b = n * up d in
    rw (signed_whole false (cut_down a (down e)) (cut_small a (down e) (down_pos e) s), signed_whole false (taken_up b (down d)) (taken_small b (down d) (down_pos d) t))
    (le-leb (cut_down a (down e)) (taken_up b (down d)) (between a (down e) b (down d) (down_pos e) (down_pos d) (at_most false false (a * down d) (b * down e) h)))
floor_ceil (fin true m e) (fin false n d) s t h =
    let a = m * up e in
    let b = n * up d in
    rw (signed_whole true (taken_up a (down e)) (taken_small a (down e) (down_pos e) s), signed_whole false (taken_up b (down d)) (taken_small b (down d) (down_pos d) t))
    (neg_pos (taken_up a (down e)) (taken_up b (down d)))
floor_ceil (fin true m e) (fin true n d) s t h =
    let a = m * up e in
    let b = n * up d in
    rw (signed_whole true (taken_up a (down e)) (taken_small a (down e) (down_pos e) s), signed_whole true (cut_down b (down d)) (cut_small b (down d) (down_pos d) t))
    (neg_neg (taken_up a (down e)) (cut_down b (down d)) (between b (down d) a (down e) (down_pos d) (down_pos e) (at_most true true (a * down d) (b * down e) h)))
floor_ceil (fin false m e) (fin true n d) s t h =
    let a = m * up e in
    let b = n * up d in
    let z = at_most false true (a * down d) (b * down e) h in
    rw (signed_whole false (cut_down a (down e)) (cut_small a (down e) (down_pos e) s), signed_whole true (cut_down b (down d)) (cut_small b (down d) (down_pos d) t), none a (down e) (down d) (down_pos e) (down_pos d) (left_zero (a * down d) (b * down e) z), none b (down d) (down e) (down_pos d) (down_pos e) (right_zero (a * down d) (b * down e) z)) refl

-- ---- the least coordinate is not above the greatest

small_finite : (x : Float) → Small x → T (finite x)
small_finite nan s = s
small_finite (inf t) s = s
small_finite (fin t m e) s = tt

below : (x y : Float) → T (lt x y) → T (le x y)
unfolding le
below x y t = or_l (lt x y) (eq x y) t

itself : (x : Float) → Small x → T (ne x x) → ⊥
unfolding ne eq
itself nan s t = s
itself (inf u) s t = s
itself (fin true m e) s t = rw (eq-eqb (m * up e * down e) (m * up e * down e) refl) at t
itself (fin false m e) s t = rw (eq-eqb (m * up e * down e) (m * up e * down e) refl) at t

first : (x : Float) → Small x → T (le (min_of f_max x) (max_of (neg f_max) x))
first x s = rw (below_max x s, above_min x s) (le_same x (small_finite x s))

next : (a b x : Float) → Small a → Small b → Small x → T (le a b) → T (le (min_of a x) (max_of b x))
next a b x p q s h = go (lt x a) (ne a a) (lt b x) (ne b b) (below x a) (itself a p) (below b x) (itself b q)
  where
    same : T (le x x)
    same = le_same x (small_finite x s)

    go : (t u v w : Bool) → (T t → T (le x a)) → (T u → ⊥) → (T v → T (le b x)) → (T w → ⊥) → T (le (cond t x (cond u x a)) (cond v x (cond w x b)))
    go true u true w f g k l = same
    go true u false true f g k l = same
    go true u false false f g k l = le_through x a b (f tt) h
    go false true v w f g k l = absurd (g tt)
    go false false true w f g k l = le_through a b x h (k tt)
    go false false false true f g k l = absurd (l tt)
    go false false false false f g k l = h

pub record Ordered (e : Extent) : Type 0 where
  pub across : T (le e.minx e.maxx)
  pub down : T (le e.miny e.maxy)

extent_ordered : (pts : List Float) (h : coords_ok pts ≡ true) (n : ℕ) → n < point_count pts → Ordered (extent_of pts (suc n))
unfolding extent_of
extent_ordered pts h zero l = record { across = first _ (coordinate pts h 0 (omega arith)); down = first _ (coordinate pts h 1 (omega arith)) }
extent_ordered pts h (suc n) l =
    let c = extent_close pts h n (omega arith) in
    let o = extent_ordered pts h n (omega arith) in
    let x = coordinate pts h (suc n * 2) (omega arith) in
    let y = coordinate pts h (suc n * 2 + 1) (omega arith) in
    record { across = next _ _ _ c.left c.right x o.across; down = next _ _ _ c.top c.bottom y o.down }

-- ---- the box

span_some : (least most : Float) → Small least → Small most → T (le least most) → 2 ≤ span_of most (origin_of least)
unfolding span_of origin_of
span_some least most s t h =
    let f = to_i32 (floor_of least) in
    let c = to_i32 (ceil_of most) in
    let z = floor_ceil least most s t h in
    let p = difference_parts f (pos 1) in
    let q = sum_parts c (pos 1) in
    let r = difference_parts (c +ℤ pos 1) (f -ℤ pos 1) in
    omega (order_z, z, p, q, r, one_sided f, one_sided c, one_sided (f -ℤ pos 1), one_sided (c +ℤ pos 1), one_sided (c +ℤ pos 1 -ℤ (f -ℤ pos 1)))

pub sides_some : (pts : List Float) → Ranged pts → (2 ≤ (poly_box pts).bw) × (2 ≤ (poly_box pts).bh)
unfolding poly_box
sides_some pts r =
    let n = point_count pts in
    let e = last n (omega (arith, r.some)) in
    let c : Close (extent_of pts n) = rw e (extent_close pts r.coords (n - 1) (omega (arith, r.some))) in
    let o : Ordered (extent_of pts n) = rw e (extent_ordered pts r.coords (n - 1) (omega (arith, r.some))) in
    (span_some _ _ c.left c.right o.across, span_some _ _ c.top c.bottom o.down)
