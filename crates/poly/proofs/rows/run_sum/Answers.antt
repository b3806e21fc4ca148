-- `poly::rows::run_sum` meets its contract. The words before v are in the sum. Assumes nothing.
use Rattle.std.proofs.Common.{◌≡◌, ℕ, ◌+◌, ◌-◌, ◌<◌, ◌≤◌, List, length, get_or, take, drop, refl, sym, ◌∙◌, arith, length-drop}
use lib.Seq.{length-take-le}
use lib.Ieee.{Float, nan}
use Rattle.std.proofs.lemmas.List.{get_or-take, get_or-drop}
use Rattle.poly.specs.Poly.{run_sum}
use Rattle.poly.proofs.Turns.{run_sum_more}
use Rattle.poly.proofs.rows.run_sum.Goals as goal

-- the n words from i, as a slice
module _ (acc : List Float) (i n : ℕ) (h : i + n ≤ length acc) where
  words_length : length (take (i + n - i) (drop i acc)) ≡ n
  words_length =
      let l : i + n - i ≤ length (drop i acc) = omega (arith, length-drop i acc) in
      length-take-le _ _ l ∙ omega arith

  word : (k : ℕ) → k < length (take (i + n - i) (drop i acc)) → get_or (take (i + n - i) (drop i acc)) k nan ≡ get_or acc (i + k) nan
  word k l = get_or-take (i + n - i) (drop i acc) k nan (omega (arith, words_length)) ∙ get_or-drop i acc k nan

pub loop-v-init : goal.loop-v-init
unfolding run_sum
loop-v-init c = refl

pub loop-v-preserved : goal.loop-v-preserved
loop-v-preserved c =
    let at = c.args in
    let k = c.loop-v.v-index in
    rw (c.loop-v.invariant, word at.acc.now at.i at.n c.requires k c.loop-v-test.true) (sym (run_sum_more at.acc.now at.i k))
