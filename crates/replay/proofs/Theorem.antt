-- Demand 3 holds, and so do what the counts tell, the ceiling on patch work, and what is claimed of boxes under a clip. Assumes nothing.
use Prim.Native.Nat.{ℕ}
use Rattle.items.specs.Format.{kind, format, zero_word}
use Rattle.items.proofs.Lawful.{lawful}
use Rattle.redraw.specs.Calls.{Busy}
use Rattle.redraw.specs.Ceiling.{PatchCeiling}
use Rattle.redraw.specs.Before.{Fewer, Smaller, AsBefore}
use Rattle.redraw.proofs.Lists as lists
use Rattle.redraw.proofs.Busy as counts
use Rattle.redraw.proofs.Ceilings as ceilings
use Rattle.redraw.proofs.Cuts as cuts
use Rattle.replay.specs.Demand3.{Demand3}
use Rattle.replay.specs.Ran.{Shows}
use Rattle.replay.proofs.Laws.{shows}

pub demand_3 : Demand3
demand_3 = lists.demand_3 zero_word format lawful

-- the list that `replay` runs
pub replay_shows : (pitch : ℕ) → Shows zero_word format pitch
replay_shows = shows

pub busy : Busy zero_word format
busy = counts.busy zero_word format lawful

pub ceiling : PatchCeiling zero_word format
ceiling = ceilings.ceiling zero_word format

pub smaller : Smaller format
smaller = cuts.smaller format

pub as_before : AsBefore format
as_before = cuts.as_before format lawful

pub fewer : Fewer kind
fewer = cuts.fewer kind
