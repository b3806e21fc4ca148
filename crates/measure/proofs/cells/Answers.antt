-- `measure::cells` meets its contract. Assumes nothing.
use mathlib.Core.Path.{refl}
use Prim.Native.Nat.{◌-◌, ◌≤◌}
use native.Mathlib.Nat.{mul-le-mul}
use native.Mathlib.Omega.{arith}
use Rattle.draw.specs.declared.Area.{Area}
use Rattle.measure.specs.Walked.{Small, cells_of}
use Rattle.measure.proofs.cells.Goals as goal

most : (a : Area) → Small a → cells_of a ≤ 4194304
most a s =
    let w : a.x1 - a.x0 ≤ 2048 = omega (arith, s.wide) in
    let h : a.y1 - a.y0 ≤ 2048 = omega (arith, s.high) in
    mul-le-mul w h

pub overflow_mul-result : goal.overflow_mul-result
overflow_mul-result c = omega (arith, most c.args.a c.requires)

pub returns : goal.returns
returns c = (refl, most c.args.a c.requires)
