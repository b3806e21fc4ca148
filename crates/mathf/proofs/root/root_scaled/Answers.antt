-- `mathf::root::root_scaled` meets its contract, by the laws of `Scaled`. Assumes nothing.
use Rattle.std.proofs.Common.{◌≡◌, ℕ, ◌^◌, ◌<◌, sym, refl, ap, ◌∙◌, subst, lt_trans, arith, lit<}
use Rattle.mathf.specs.Root.{near_root}
use Rattle.mathf.proofs.Scaled.{scaled_of, eight_zeros, scaled_small, scaled_high, shifted, near_high, scaled_answer}
use Rattle.mathf.proofs.root.root_scaled.Goals.{After-near_root, Start}
use Rattle.mathf.proofs.root.root_scaled.Goals as goal

-- what `near_root` gave is the nearest root of the scaled significand, and has 24 digits
near : (c : After-near_root) → c.near_root.result ≡ near_root (scaled_of c.args.sig c.args.e)
near c = let at = c.before in c.near_root.ensures ∙ ap near_root (shifted at.args.sig at.args.e at.requires.sig_nonzero at.requires.sig_bound at.requires.e_bound)

near-lt : (c : After-near_root) → c.near_root.result < 2 ^ 24
near-lt c =
    let at = c.before in
    subst (λ (n : ℕ). n < 2 ^ 24) (sym (near c)) (near_high _ (scaled_high at.args.sig at.args.e at.requires.sig_nonzero at.requires.sig_bound at.requires.e_bound))

pub overflow_sub-zeros : goal.overflow_sub-zeros
overflow_sub-zeros c = eight_zeros c.args.sig c.args.e c.requires.sig_nonzero c.requires.sig_bound c.requires.e_bound

pub near_root-requires : goal.near_root-requires
near_root-requires c =
    let s = c.args.sig in
    let e = c.args.e in
    subst (λ (m : ℕ). m < 2 ^ 48) (sym (shifted s e c.requires.sig_nonzero c.requires.sig_bound c.requires.e_bound)) (scaled_small s e c.requires.sig_nonzero c.requires.sig_bound c.requires.e_bound)

pub overflow_cast-result : goal.overflow_cast-result
overflow_cast-result c = record { fits = lt_trans (near-lt c) (lit< tt) }

pub overflow_add-result : goal.overflow_add-result
overflow_add-result c = omega (arith, near-lt c)

pub returns : goal.returns
returns c = let at = c.before in scaled_answer at.args.sig at.args.e c.near_root.result _ at.requires.sig_nonzero at.requires.sig_bound at.requires.e_bound (near c) refl
