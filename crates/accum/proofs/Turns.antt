-- One more turn of the loop over the rows of an edge; and that each row of the box lies within the accumulator. Assumes nothing.
use mathlib.Core.Path.{◌≡◌}
use mathlib.Core.List.{List}
use Prim.Native.Nat.{ℕ, suc, ◌+◌, ◌-◌, ◌*◌, ◌<◌, ◌≤◌}
use native.Mathlib.Nat.{mul-le-mul_right, mul_comm, suc-mul}
use native.Mathlib.Omega.{arith}
use lib.Ieee.{Float}
use Rattle.accum.specs.Lines.{edge_x, edge_row, edge_rows, row_next}
use Rattle.accum.specs.Rooms.{Room}
use Rattle.accum.specs.declared.edge.Edge.{Edge}

-- row y of a box lies within n words, where the box does
pub row_words : {bw bh n : ℕ} (y : ℕ) → Room bw bh n → y < bh → y * (bw + 2) + (bw + 2) ≤ n
row_words {bw} {bh} {n} y r l =
    let m : suc y * (bw + 2) ≤ bh * (bw + 2) = mul-le-mul_right (bw + 2) l in
    let s : suc y * (bw + 2) ≡ y * (bw + 2) + (bw + 2) = suc-mul y (bw + 2) in
    let t : (bw + 2) * bh ≡ bh * (bw + 2) = mul_comm (bw + 2) bh in
    omega (arith, r.words)

module _ (e : Edge) (from y : ℕ) (l : from ≤ y) where
  pub edge_x_more : edge_x e from (y + 1 - from) ≡ row_next e y (edge_x e from (y - from))
  unfolding edge_x
  edge_x_more =
      let p : y + 1 - from ≡ suc (y - from) = omega arith in
      let q : from + (y - from) ≡ y = omega arith in
      rw p (rw q)

  pub edge_rows_more : (a : List Float) (bw : ℕ) → edge_rows a bw e from (y + 1 - from) ≡ edge_row (edge_rows a bw e from (y - from)) bw e y (edge_x e from (y - from))
  unfolding edge_rows
  edge_rows_more a bw =
      let p : y + 1 - from ≡ suc (y - from) = omega arith in
      let q : from + (y - from) ≡ y = omega arith in
      rw p (rw q)
