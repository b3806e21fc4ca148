-- Columns of the box, signed in the definitions and natural in the code: that the columns an edge's row starts and ends in lie in the box,
-- since a float that is clamped to 0 .. n has a floor and a ceiling of 0 .. n, and a NaN counts as 0. Assumes nothing.
use mathlib.Core.Path.{◌≡◌, sym, ap, ◌∙◌}
use mathlib.Core.Bool.{true, false}
use mathlib.Core.List.{List}
use Prim.Native.Nat.{ℕ, zero, suc, ◌+◌, ◌-◌, ◌*◌, ◌/◌, ◌^◌, ◌≤◌, min}
use native.Mathlib.Nat.{add-zero, sub-zero}
use native.Mathlib.Omega.{arith}
use borrow.Author.Tests.{le-ltb}
use lib.IntN.{ℤ, pos, nat_abs, neg_ℤ, ◌-ℤ◌}
use lib.Ieee.{Float, nan, inf, fin, to_unsigned, to_signed}
use lib.Ieee as Ieee
use Rattle.mathf.specs.F32.{◌+ᶠ◌, ◌-ᶠ◌, ◌*ᶠ◌, of_ℕᶠ, f0, f1, f1½}
use Rattle.geom.specs.Int.{down}
use Rattle.mathf.specs.Convert.{to_i32, to_usize}
use Rattle.mathf.specs.Order.{clamp_of}
use Rattle.mathf.specs.Whole.{floor_of, ceil_of}
use Rattle.accum.specs.Accum.{bump_at, bump_run, mid_row}
use Rattle.mathf.proofs.Bounds.{Index, floor_index, ceil_index, clamp_within, of_int_lem}

-- a difference of columns that is not negative
pub less : (a b : ℕ) → b ≤ a → pos a -ℤ pos b ≡ pos (a - b)
less a zero h = rw (add-zero, sub-zero)
less a (suc b) h = rw (le-ltb a (suc b) h)

-- the middle of a row, by natural columns i and j
pub mid_row_lem : (a : List Float) (ls i j : ℕ) (d s x0fr a0 am : Float) → i + 3 ≤ j
    → bump_at (bump_run (bump_at a (ls + (i + 1)) (d *ᶠ (s *ᶠ (f1½ -ᶠ x0fr) -ᶠ a0))) (ls + (i + 2)) (ls + (j - 1) - (ls + (i + 2))) (d *ᶠ s)) (ls + (j - 1))
    (d *ᶠ (f1 -ᶠ (s *ᶠ (f1½ -ᶠ x0fr) +ᶠ of_ℕᶠ (j - i - 3) *ᶠ s) -ᶠ am))
    ≡ mid_row a ls (pos i) (pos j) d s x0fr a0 am
unfolding mid_row
mid_row_lem a ls i j d s x0fr a0 am h =
    let n : ls + (j - 1) - (ls + (i + 2)) ≡ j - 1 - (i + 2) = omega arith in
    rw (less j i (omega arith), less (j - i) 3 (omega arith), less j 1 (omega arith), less (j - 1) (i + 2) (omega arith), n)

-- ---- `as i32` and `as usize` of a float that is a column

-- the number of a ℤ
abbrev size : ℤ → ℕ
size z = nat_abs z

capped : (q k : ℕ) → min q (2 ^ 31 - 1) ≡ k → k ≤ 2 ^ 24 → min q (2 ^ 64 - 1) ≡ k
capped q k e h = omega arith

none : (q k : ℕ) → neg_ℤ (pos q) ≡ pos k → 0 ≡ k
none zero k e = ap size e
none (suc q) k e = let n : suc q ≡ k = ap size e in let z : suc q ≡ 0 = ap down e in absurd (omega arith)

same : (v : Float) (k : ℕ) → k ≤ 2 ^ 24 → to_i32 v ≡ pos k → to_usize v ≡ k
unfolding to_signed to_unsigned
same nan k h e = ap size e
same (inf true) k h e = none (2 ^ 31) k e
same (inf false) k h e = let q : 2 ^ 31 - 1 ≡ k = ap size e in absurd (omega arith)
same (fin true m e) k h q = none (min (m * Ieee.up e / Ieee.down e) (2 ^ 31)) k q
same (fin false m e) k h q = capped (m * Ieee.up e / Ieee.down e) k (ap size q) h

-- v is a column of 0 .. n
pub record Column (n : ℕ) (v : Float) : Type 0 where
  pub is : to_i32 v ≡ pos (to_usize v)
  pub within : to_usize v ≤ n

column : (n : ℕ) (v : Float) → n ≤ 2 ^ 24 → Index n (to_i32 v) → Column n v
column n v b i =
    let e = same v i.at (omega (arith, i.within)) i.is in
    record { is = i.is ∙ ap pos (sym e); within = omega (arith, i.within, e) }

module _ (n : ℕ) (b : n ≤ 2 ^ 24) (x : Float) where
  pub floor_column : Column n (floor_of (clamp_of x f0 (of_ℕᶠ n)))
  floor_column = column n (floor_of (clamp_of x f0 (of_ℕᶠ n))) b (floor_index n b (clamp_of x f0 (of_ℕᶠ n)) (clamp_within n x (of_ℕᶠ n) (of_int_lem n b)))

  pub ceil_column : Column n (ceil_of (clamp_of x f0 (of_ℕᶠ n)))
  ceil_column = column n (ceil_of (clamp_of x f0 (of_ℕᶠ n))) b (ceil_index n b (clamp_of x f0 (of_ℕᶠ n)) (clamp_within n x (of_ℕᶠ n) (of_int_lem n b)))
