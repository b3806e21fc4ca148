-- `items::coords` meets its contract. The first i places hold their coordinates. Assumes nothing.
use mathlib.Core.Path.{◌≡◌}
use Prim.Native.Nat.{◌≤◌}
use lib.ListN.{length, take}
use Rattle.items.specs.Items.{coords_from}
use Rattle.items.proofs.coords.Given as goal

abbrev pub invariant-loop-i : goal.invariant-loop-i
invariant-loop-i l = (take l.i l.x-items ≡ coords_from l.b l.from l.i) × (length l.x-items ≡ 128) × (l.i ≤ 128)
