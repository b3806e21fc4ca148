-- The number that a call is refused with, one test after the other. Assumes nothing.
use Rattle.std.specs.Prelude.{ℕ, Bool, true, false, cond, eqb, ⊤, Ok, Err}
use Rattle.std.specs.declared.result.Result.{Result}
use Rattle.geom.specs.declared.checks.Refusal.{Refusal}
use Rattle.geom.specs.declared.checks.Refusal.TheVariants.{SheetLength, Header, Pairs, Kind, ZeroByte, Float, Clips, Pixels, Scratch, Difference, Ink, State, Points, Many, Pitch, Buffer, Command, FlagWrite, NotReady, Order}

-- n is given where the test fails, and what follows decides where it holds
abbrev pub unless : Bool → ℕ → ℕ → ℕ
unless ok n rest = cond ok rest n

-- n, the number of the tests before, where it is not 0; else what follows decides
abbrev pub and_then : ℕ → ℕ → ℕ
and_then n rest = cond (eqb n 0) rest n

-- the number of a refusal
abbrev pub code : Refusal → ℕ
code SheetLength = 1
code Header = 2
code Pairs = 3
code Kind = 4
code ZeroByte = 5
code Float = 6
code Clips = 7
code Pixels = 8
code Scratch = 9
code Difference = 10
code Ink = 11
code State = 12
code Points = 13
code Many = 14
code Pitch = 15
code Buffer = 19
code Command = 20
code FlagWrite = 21
code NotReady = 22
code Order = 23

-- what a test returns, and the number of what was tested, 0 where all of it passed
abbrev pub tested : Bool → Refusal → Result ⊤ Refusal
tested true r = Ok tt
tested false r = Err r

abbrev pub number_of : Result ⊤ Refusal → ℕ
number_of (Ok u) = 0
number_of (Err r) = code r
