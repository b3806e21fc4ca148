-- `color::turns::doubled` meets its contract. Assumes nothing.
use mathlib.Core.Path.{sym, ap, ◌∙◌}
use Prim.Native.Nat.{ℕ, ◌*◌, ◌%◌, ◌^◌}
use native.Mathlib.Nat.{mul_assoc}
use lib.Pow.{pow-add}
use Rattle.std.proofs.lemmas.Nat.{mul-mod_first}
use Rattle.color.proofs.turns.doubled.Goals as goal

pub loop-i-preserved : goal.loop-i-preserved
loop-i-preserved c =
    let s = c.args.sig in
    let i = c.loop-i.i in
    ap (λ (x : ℕ). x * 2 % 11796480) c.loop-i.invariant
    ∙ mul-mod_first (s * 2 ^ i) 2 11796480
    ∙ ap (λ (x : ℕ). x % 11796480) (mul_assoc s (2 ^ i) 2 ∙ ap (λ (x : ℕ). s * x) (sym (pow-add 2 i 1)))
