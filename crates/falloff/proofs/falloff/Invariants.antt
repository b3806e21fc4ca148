-- `falloff::falloff` meets its contract. The first i entries hold their levels. Assumes nothing.
use Rattle.std.proofs.Common.{◌≡◌, take}
use Rattle.falloff.specs.Falloff.{level_of, table}
use Rattle.falloff.proofs.falloff.Given as goal

abbrev pub invariant-loop-i : goal.invariant-loop-i
invariant-loop-i l = take l.i l.entry-items ≡ table (level_of l.a) l.i
