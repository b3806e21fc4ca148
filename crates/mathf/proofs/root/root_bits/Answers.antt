-- `mathf::root::root_bits` meets its contract: the pattern's fields are the significand and the exponent. Assumes nothing.
use Rattle.std.proofs.Common.{◌-◌, sym, ◌∙◌, lt_of_lt_of_le, mul-pos, lit<, pow_pos}
use Rattle.mathf.proofs.Patterns.{field_of, sig_low, low_pattern, high_pattern, sqrt_of_value}
use Rattle.mathf.proofs.root.root_bits.Goals as goal

pub returns-then-b-lt8388608 : goal.returns-then-b-lt8388608
returns-then-b-lt8388608 c =
    let b = c.args.b in
    let e = c.root_scaled.ensures in
    (e.0, e.1 ∙ sym (sqrt_of_value _ _ (mul-pos c.requires.b_nonzero (pow_pos 0)) (low_pattern b c.if-b-lt8388608.true)))

pub returns-else-b-lt8388608 : goal.returns-else-b-lt8388608
returns-else-b-lt8388608 c =
    let b = c.args.b in
    let e = c.root_scaled-else-b-lt8388608.ensures in
    (e.0, e.1 ∙ sym (sqrt_of_value _ _ (mul-pos (lt_of_lt_of_le (lit< tt) (sig_low b)) (pow_pos (field_of b - 1))) (high_pattern b c.if-b-lt8388608.false c.requires.b_bound)))
