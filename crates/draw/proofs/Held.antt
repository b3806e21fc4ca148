-- Rows of numbers that are filled column by column. Assumes nothing.
use mathlib.Core.Path.{◌≡◌, ◌∙◌}
use mathlib.Core.List.{List}
use mathlib.Core.Logic.{⊎_elim}
use Prim.Native.Nat.{ℕ, ◌+◌, ◌<◌, ◌≤◌}
use native.Mathlib.Nat.{eq-or-lt_of_le}
use native.Mathlib.Omega.{arith}
use lib.ListN.{length, get_or, set, length-set}
use lib.Seq.{get_or-set_same, get_or-set_other}
use Rattle.draw.specs.Held.{Holds}

-- the places x0 up to x are filled
pub record Filling (f : ℕ → ℕ) (size x0 x1 : ℕ) (row : List ℕ) (x : ℕ) : Type 0 where
  pub held : Holds f x0 x row
  pub long : length row ≡ size
  pub from : x0 ≤ x
  pub to : x ≤ x1

module _ {f : ℕ → ℕ} {size x0 x1 : ℕ} {row : List ℕ} where
  pub held_start : length row ≡ size → x0 ≤ x1 → Filling f size x0 x1 row x0
  unfolding Holds
  held_start l h = record { held = λ x a b. absurd (omega arith); long = l; from = omega arith; to = h }

  pub held_next : {x v : ℕ} → x1 ≤ size → Filling f size x0 x1 row x → x < x1 → v ≡ f x → Filling f size x0 x1 (set row x v) (x + 1)
  unfolding Holds
  held_next {x} {v} w i h e = record { held = at; long = length-set row x v ∙ i.long; from = omega arith; to = omega arith }
    where
      at : (k : ℕ) → x0 ≤ k → k < x + 1 → get_or (set row x v) k 0 ≡ f k
      at k a b = ⊎_elim same other (eq-or-lt_of_le (omega arith))
        where
          same : k ≡ x → get_or (set row x v) k 0 ≡ f k
          same u = rw u (get_or-set_same row x v 0 (omega (arith, i.long)) ∙ e)

          other : k < x → get_or (set row x v) k 0 ≡ f k
          other u = get_or-set_other row x k v 0 (λ q. omega arith) ∙ i.held k a u

  pub held_end : {x : ℕ} → Filling f size x0 x1 row x → x1 ≤ x → Holds f x0 x1 row
  unfolding Holds
  held_end i h k a b = i.held k a (omega arith)

pub held_part : (f : ℕ → ℕ) (x0 x1 : ℕ) (row : List ℕ) {a b : ℕ} → Holds f x0 x1 row → x0 ≤ a → b ≤ x1 → Holds f a b row
unfolding Holds
held_part f x0 x1 row i h u k l m = i k (omega arith) (omega arith)
