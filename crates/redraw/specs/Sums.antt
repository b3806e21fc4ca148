-- Sums over the places of a canvas, and how many of them are in a set.
use Rattle.std.specs.Prelude.{Bool, cond, ℕ, zero, suc, ◌+◌}

-- f 0 + f 1 + .. up to n
unfoldable pub sum_to : (ℕ → ℕ) → ℕ → ℕ
sum_to f zero = 0
sum_to f (suc n) = sum_to f n + f n

-- how many of the places below n are in a set
abbrev pub count_to : (ℕ → Bool) → ℕ → ℕ
count_to s n = sum_to (λ i. cond (s i) 1 0) n
