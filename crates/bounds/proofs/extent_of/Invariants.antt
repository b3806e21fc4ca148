-- `bounds::extent_of` meets its contract. The points so far are in the extent, and the others are left. Assumes nothing.
use Rattle.std.proofs.Common.{◌≡◌, ◌*◌, length, drop}
use Rattle.bounds.specs.Bounds.{extent_of}
use Rattle.bounds.proofs.extent_of.Given as goal

abbrev pub invariant-loop-p : goal.invariant-loop-p
invariant-loop-p l =
    (l.e ≡ extent_of l.pts (length l.yielded)) × (l.p-iterator.size ≡ 2) × (l.p-iterator.rest.now ≡ drop (length l.yielded * 2) l.pts)
