-- One more turn of each loop. Assumes nothing.
use mathlib.Core.Path.{◌≡◌, ap}
use mathlib.Core.List.{List}
use Prim.Native.Nat.{ℕ, ◌+◌, ◌%◌}
use native.Mathlib.Numerals.{add-one}
use lib.ListN.{get_or}
use lib.Ieee.{Float, nan}
use Rattle.mathf.specs.F32.{◌+ᶠ◌}
use Rattle.accum.specs.Lines.{line_accum}
use Rattle.bounds.specs.Bounds.{point_count}
use Rattle.bounds.specs.declared.PolyBox.{PolyBox}
use Rattle.poly.specs.Poly.{point_from, edges_accum, run_sum}

module _ (pts : List Float) (n : ℕ) where
  pub edges_more : (a : List Float) (g : PolyBox)
      → edges_accum a pts g (n + 1) ≡ line_accum (edges_accum a pts g n) g.bw g.bh (point_from pts g n) (point_from pts g ((n + 1) % point_count pts))
  unfolding edges_accum
  edges_more a g = ap (λ (k : ℕ). edges_accum a pts g k) (add-one n)

pub run_sum_more : (acc : List Float) (i n : ℕ) → run_sum acc i (n + 1) ≡ run_sum acc i n +ᶠ get_or acc (i + n) nan
unfolding run_sum
run_sum_more acc i n = ap (λ (k : ℕ). run_sum acc i k) (add-one n)
