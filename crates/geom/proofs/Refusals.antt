-- What the number 0 says of the tests before it, and a number by the tests before and those after. Assumes nothing.
use mathlib.Core.Path.{◌≡◌, refl}
use mathlib.Core.Bool.{Bool, true, false, cond}
use Prim.Native.Nat.{ℕ, suc}
use native.Mathlib.Omega.{arith}
use borrow.Author.Tests.{eq-eqb, ne_eqb, eqb-true, eqb-false}
use lib.Dec.{eqb}
use Rattle.geom.specs.Refusals.{code, unless, and_then}
use Rattle.geom.specs.declared.checks.Refusal.{Refusal}
use Rattle.geom.specs.declared.checks.Refusal.TheVariants.{SheetLength, Header, Pairs, Kind, ZeroByte, Float, Clips, Pixels, Scratch, Difference, Ink, State, Points, Many, Pitch, Buffer, Command, FlagWrite, NotReady, Order}

-- a number other than 0 is not 0
never : {n : ℕ} → suc n ≡ 0 → ⊥
never e = omega arith

-- nor is that of a refusal
pub code_some : (r : Refusal) → eqb (code r) 0 ≡ false
code_some SheetLength = refl
code_some Header = refl
code_some Pairs = refl
code_some Kind = refl
code_some ZeroByte = refl
code_some Float = refl
code_some Clips = refl
code_some Pixels = refl
code_some Scratch = refl
code_some Difference = refl
code_some Ink = refl
code_some State = refl
code_some Points = refl
code_some Many = refl
code_some Pitch = refl
code_some Buffer = refl
code_some Command = refl
code_some FlagWrite = refl
code_some NotReady = refl
code_some Order = refl

-- a test before a number that is 0 held, and so does what follows
pub passed : (t : Bool) (n rest : ℕ) → unless t (suc n) rest ≡ 0 → (t ≡ true) × (rest ≡ 0)
passed true n rest e = (refl, e)
passed false n rest e = absurd (never e)

-- m is the number n of the tests before: it is that of the whole call where it is not 0
pub then_refused : {m n : ℕ} (rest : ℕ) → m ≡ n → (m ≡ 0 → ⊥) → m ≡ and_then n rest
then_refused {m} rest e k = rw (← e, ne_eqb m 0 k)

-- .. and else the tests after them decide
pub then_passed : {n : ℕ} (rest : ℕ) → n ≡ 0 → rest ≡ and_then n rest
then_passed {n} rest e = rw (eq-eqb n 0 e)

-- both are 0 where the whole is
pub then_open : (n rest : ℕ) → and_then n rest ≡ 0 → (n ≡ 0) × (rest ≡ 0)
then_open n rest e = go (eqb n 0) refl e
  where
    go : (t : Bool) → eqb n 0 ≡ t → cond t rest n ≡ 0 → (n ≡ 0) × (rest ≡ 0)
    go true z q = (eqb-true n 0 z, q)
    go false z q = absurd (eqb-false n 0 z q)
