-- `text::put_decimal` meets its contract. Assumes nothing.
use Prim.Native.Nat.{ℕ, ◌+◌, ◌<◌, ◌^◌, ◌≤◌}
use mathlib.Core.List.{List}
use mathlib.Core.Path.{◌≡◌, ap, ◌∙◌}
use native.Mathlib.Omega.{arith}
use lib.ListN.{length, take}
use Rattle.io.specs.Counts.{IsPrefixLen}
use Rattle.io.specs.Digits.{last_digits, IsDigitCount}
use Rattle.text.specs.Text.{decimal_of}
use Rattle.text.proofs.Decimal.{decimal_is, decimal_short}
use Rattle.text.proofs.put_decimal.Goals as goal

-- what `io::decimal` promises of k digits: they are the text, whose length is k, at most 10
told : (n k : ℕ) (out : List ℕ) → n < 2 ^ 32 → IsPrefixLen k out → IsDigitCount 10 1 n k → take k out ≡ last_digits 10 k n
    → (take k out ≡ decimal_of n) × (k ≡ length (decimal_of n)) × (k ≤ 10)
told n k out small counts fewest put =
    let text = put ∙ decimal_is 9 n k (omega (arith, small)) fewest in
    let long = counts.1 ∙ ap length text in
    (text, long, omega (arith, long, decimal_short 9 n))

pub overflow_add-result : goal.overflow_add-result
overflow_add-result c =
    let d = c.decimal-k.ensures in
    omega (arith, c.requires, (told c.args.n _ _ (omega arith) d.in_bounds d.len d.digits).2)

pub returns : goal.returns
returns c =
    let d = c.decimal-k.ensures in
    let t = told c.args.n _ _ (omega arith) d.in_bounds d.len d.digits in
    record { value = (ap (λ k. c.args.at + k) t.1, omega (arith, t.2)); out_after = rw t.0 at c.put.ensures }
