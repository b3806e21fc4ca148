-- The box of points that are within 8,192 of 0: its corner is near, and its sides are small. Assumes nothing.
use mathlib.Core.Path.{◌≡◌, refl}
use mathlib.Core.Bool.{Bool, true, false, cond}
use mathlib.Core.List.{List, [], ◌∷◌}
use Prim.Native.Nat.{ℕ, zero, suc, ◌+◌, ◌-◌, ◌*◌, ◌^◌, ◌<◌, ◌≤◌}
use native.Mathlib.Nat.{lt_of_le_of_lt, mul-one, mul-pos, mul-lt-mul_of_pos_right, le_of_suc-le-suc, not-suc-le-zero}
use native.Mathlib.Omega.{arith}
use lib.Dec.{T, lit≤, lit<}
use lib.Arith.{le→nltb}
use lib.IntN.{ℤ, pos, nat_abs, ◌+ℤ◌, ◌-ℤ◌}
use lib.ListN.{length, get_or}
use lib.Ieee.{Float, nan, inf, fin, up, down, lt, le, eq, ne, neg, of_bits}
use lib.Ieee.Fits.{down_pos}
use borrow.Author.Tests.{lt-ltb}
use Rattle.mathf.specs.Order.{min_of, max_of}
use Rattle.mathf.specs.Whole.{floor_of, ceil_of}
use Rattle.mathf.specs.Convert.{to_i32}
use Rattle.mathf.specs.F32.{◌≤ᶠ◌, limit, -limit}
use Rattle.mathf.proofs.Bounds.{Sized, floor_size, ceil_size}
use Rattle.mathf.proofs.Compared.{at_most}
use Rattle.mathf.proofs.Saturating.{passed}
use Rattle.mathf.proofs.Ints.{sum_size, difference_size}
use Rattle.geom.specs.Plane.{float_ok}
use Rattle.geom.proofs.Bools.{and_left, and_right}
use Rattle.gfx.specs.Points.{coords_ok}
use Rattle.bounds.specs.Bounds.{point_count, f_max, extent_of, origin_of, span_of, poly_box}
use Rattle.bounds.specs.Plans.{Ranged, Near}
use Rattle.bounds.specs.declared.Extent.{Extent}
use Rattle.bounds.proofs.Signs.{up_size}

-- ---- a float within 8,192 of 0

abbrev pub Small : Float → Type 0
Small nan = ⊥
Small (inf s) = ⊥
Small (fin s m e) = m * up e ≤ 8192 * down e

small_by : (x : Float) → T (le (fin true 1 (pos 13)) x) → T (le x (fin false 1 (pos 13))) → Small x
unfolding le lt eq
small_by nan a b = absurd a
small_by (inf true) a b = absurd a
small_by (inf false) a b = absurd b
small_by (fin true m e) a b = let h = at_most true true (1 * 2 ^ 13 * down e) (m * up e * 1) a in omega (arith, h)
small_by (fin false m e) a b = let h = at_most false false (m * up e * 1) (1 * 2 ^ 13 * down e) b in omega (arith, h)

small_of : (x : Float) → float_ok x ≡ true → Small x
unfolding float_ok of_bits neg
small_of x h = small_by x (passed (and_left (-limit ≤ᶠ x) (x ≤ᶠ limit) h)) (passed (and_right (-limit ≤ᶠ x) (x ≤ᶠ limit) h))

small_sized : (x : Float) → Small x → Sized 8192 x
unfolding lt neg
small_sized nan s = absurd s
small_sized (inf t) s = absurd s
small_sized (fin true m e) s =
    record { hi = fin false 1 (pos 13); whole = (refl, refl); low = le→nltb (1 * 2 ^ 13 * down e) (m * up e * 1) (rw (mul-one (m * up e)) s); high = tt }
small_sized (fin false m e) s =
    record { hi = fin false 1 (pos 13); whole = (refl, refl); low = tt; high = le→nltb (1 * 2 ^ 13 * down e) (m * up e * 1) (rw (mul-one (m * up e)) s) }

-- ---- it is below f32::MAX and above f32::MIN, so the first point's coordinates are the first extent

room : (a d b : ℕ) → 0 < d → a ≤ 8192 * d → 8192 < b → a * 1 < b * d
room a d b h l k = rw mul-one (lt_of_le_of_lt l (mul-lt-mul_of_pos_right k h))

right_pos : (a b : ℕ) → 0 < b → 0 < a + b
right_pos a b h = omega arith

left_pos : (a b : ℕ) → 0 < a → 0 < a + b
left_pos a b h = omega arith

-- f_max is big * 1 / 1
big : ℕ
big = (2 ^ 24 - 1) * 2 ^ 104

pub below_max : (x : Float) → Small x → lt x f_max ≡ true
unfolding lt of_bits big
below_max nan s = absurd s
below_max (inf t) s = absurd s
below_max (fin true m e) s = lt-ltb 0 (m * up e * 1 + big * down e) (right_pos (m * up e * 1) (big * down e) (mul-pos (lit< tt) (down_pos e)))
below_max (fin false m e) s = lt-ltb (m * up e * 1) (big * down e) (room (m * up e) (down e) big (down_pos e) s (lit< tt))

pub above_min : (x : Float) → Small x → lt (neg f_max) x ≡ true
unfolding lt of_bits neg big
above_min nan s = absurd s
above_min (inf t) s = absurd s
above_min (fin true m e) s = lt-ltb (m * up e * 1) (big * down e) (room (m * up e) (down e) big (down_pos e) s (lit< tt))
above_min (fin false m e) s = lt-ltb 0 (big * down e + m * up e * 1) (left_pos (big * down e) (m * up e * 1) (mul-pos (lit< tt) (down_pos e)))

min_first : (x : Float) → Small x → Small (min_of f_max x)
min_first x s = rw (below_max x s) s

max_first : (x : Float) → Small x → Small (max_of (neg f_max) x)
max_first x s = rw (above_min x s) s

-- the smaller or larger of two is one of them
pick : (t : Bool) (a b : Float) → Small a → Small b → Small (cond t a b)
pick true a b p q = p
pick false a b p q = q

min_next : (a x : Float) → Small a → Small x → Small (min_of a x)
min_next a x p q = pick (lt x a) x (cond (ne a a) x a) q (pick (ne a a) x a q p)

max_next : (a x : Float) → Small a → Small x → Small (max_of a x)
max_next a x p q = pick (lt a x) x (cond (ne a a) x a) q (pick (ne a a) x a q p)

-- ---- the extent of one point or more

coords_at : (pts : List Float) (k : ℕ) → coords_ok pts ≡ true → k < length pts → float_ok (get_or pts k nan) ≡ true
unfolding coords_ok
coords_at [] k h l = absurd (not-suc-le-zero l)
coords_at (x ∷ xs) zero h l = and_left (float_ok x) (coords_ok xs) h
coords_at (x ∷ xs) (suc k) h l = coords_at xs k (and_right (float_ok x) (coords_ok xs) h) (le_of_suc-le-suc l)

pub record Close (e : Extent) : Type 0 where
  pub left : Small e.minx
  pub top : Small e.miny
  pub right : Small e.maxx
  pub bottom : Small e.maxy

module _ (pts : List Float) (h : coords_ok pts ≡ true) where
  pub coordinate : (k : ℕ) → k < length pts → Small (get_or pts k nan)
  coordinate k l = small_of (get_or pts k nan) (coords_at pts k h l)

  pub extent_close : (n : ℕ) → n < point_count pts → Close (extent_of pts (suc n))
  unfolding extent_of
  extent_close zero l =
      let x = coordinate 0 (omega arith) in
      let y = coordinate 1 (omega arith) in
      record { left = min_first _ x; top = min_first _ y; right = max_first _ x; bottom = max_first _ y }
  extent_close (suc n) l =
      let c = extent_close n (omega arith) in
      let x = coordinate (suc n * 2) (omega arith) in
      let y = coordinate (suc n * 2 + 1) (omega arith) in
      record { left = min_next _ _ c.left x; top = min_next _ _ c.top y; right = max_next _ _ c.right x; bottom = max_next _ _ c.bottom y }

-- the numbers that ox, oy, bw and bh are made of
pub record Whole (e : Extent) : Type 0 where
  pub left : nat_abs (to_i32 (floor_of e.minx)) ≤ 8192
  pub top : nat_abs (to_i32 (floor_of e.miny)) ≤ 8192
  pub right : nat_abs (to_i32 (ceil_of e.maxx)) ≤ 8192
  pub bottom : nat_abs (to_i32 (ceil_of e.maxy)) ≤ 8192

pub last : (n : ℕ) → 0 < n → n ≡ suc (n - 1)
last n h = omega arith

pub extent_whole : (pts : List Float) → Ranged pts → Whole (extent_of pts (point_count pts))
extent_whole pts r =
    let e : point_count pts ≡ suc (point_count pts - 1) = last (point_count pts) (omega (arith, r.some)) in
    let c : Close (extent_of pts (point_count pts)) = rw e (extent_close pts r.coords (point_count pts - 1) (omega (arith, r.some))) in
    record {
      left = floor_size 8192 (lit≤ tt) _ (small_sized _ c.left);
      top = floor_size 8192 (lit≤ tt) _ (small_sized _ c.top);
      right = ceil_size 8192 (lit≤ tt) _ (small_sized _ c.right);
      bottom = ceil_size 8192 (lit≤ tt) _ (small_sized _ c.bottom);
    }

-- ---- the box

pub origin_near : (least : Float) → nat_abs (to_i32 (floor_of least)) ≤ 8192 → nat_abs (origin_of least) ≤ 8193
unfolding origin_of
origin_near least h = let s = difference_size (to_i32 (floor_of least)) (pos 1) in omega (arith, s)

span_small : (most : Float) (o : ℤ) → nat_abs (to_i32 (ceil_of most)) ≤ 8192 → nat_abs o ≤ 8193 → span_of most o ≤ 16386
unfolding span_of
span_small most o h k =
    let z = to_i32 (ceil_of most) in
    let s = sum_size z (pos 1) in
    let t = difference_size (z +ℤ pos 1) o in
    let u = up_size (z +ℤ pos 1 -ℤ o) in
    omega (arith, s, t, u)

pub box_near : (pts : List Float) → Ranged pts → Near (poly_box pts)
unfolding poly_box
box_near pts r =
    let e = extent_of pts (point_count pts) in
    let w = extent_whole pts r in
    let l = origin_near e.minx w.left in
    let t = origin_near e.miny w.top in
    record { left = l; top = t; wide = span_small e.maxx (origin_of e.minx) w.right l; high = span_small e.maxy (origin_of e.miny) w.bottom t }
