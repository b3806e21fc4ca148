-- The kinds of a number's order, as the code works them out: the number written with the digits 1, 2 and 3 to base 3. Only the
-- code's own functions cite this. Assumes nothing.
use Rattle.std.specs.Prelude.{ℕ, zero, suc, ◌+◌, ◌-◌, ◌/◌, ◌%◌, cond, List, [], ◌∷◌, ◌++◌, eqb}
use Rattle.orders.specs.declared.Kind.{Kind}
use Rattle.orders.specs.declared.Kind.TheVariants.{Push, Pop, Fill}

-- the digit of a kind
abbrev pub digit_of : Kind → ℕ
digit_of Push = 1
digit_of Pop = 2
digit_of Fill = 3

-- at most `n` digits; the last is worked out first
unfoldable pub kinds_in : ℕ → ℕ → List ℕ
kinds_in zero k = []
kinds_in (suc n) k = cond (eqb k 0) [] (kinds_in n ((k - 1) / 3) ++ (((k - 1) % 3 + 1) ∷ []))
