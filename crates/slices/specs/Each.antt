-- A function over a whole slice. Assumes nothing.
use Rattle.std.specs.Prelude.{cond, List, map, eqb, length}

-- f of each element of xs where out is as long; else out as it came
abbrev pub each {ℓ ℓ'} : {A : Type ℓ} {B : Type ℓ'} → (A → B) → List A → List B → List B
each f xs out = cond (eqb (length xs) (length out)) (map f xs) out
