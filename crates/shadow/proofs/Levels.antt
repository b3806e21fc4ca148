-- The table of levels: an entry is its level, an index from a float below 96 is in the table, and the alpha read from it is the definition's.
-- Assumes nothing.
use mathlib.Core.Path.{◌≡◌, refl, sym, ap, ◌∙◌}
use mathlib.Core.Bool.{false, cond}
use mathlib.Core.List.{List, [], ◌∷◌, ◌++◌}
use mathlib.Core.Logic.{⊎_elim}
use Prim.Native.Nat.{ℕ, zero, suc, ◌+◌, ◌<◌}
use native.Mathlib.Nat.{not-suc-le-zero, eq-or-lt_of_le, le_of_suc-le-suc}
use native.Mathlib.Omega.{arith}
use lib.ListN.{length, get_or, length-append, get_or-append}
use lib.Seq.{get_or-append-add}
use lib.Ieee.{Float, of_bits}
use lib.Ieee.Exact.{HasValue}
use Rattle.geom.proofs.Bools.{split}
use Rattle.mathf.specs.F32.{◌≤ᶠ◌, f0, f96}
use Rattle.mathf.specs.Convert.{to_usize}
use Rattle.mathf.proofs.Saturating.{failed}
use Rattle.mathf.proofs.Bounds.{cut_below}
use Rattle.shadow.specs.Shadow.{level_of, table, steps_out, alpha_of}
use Rattle.shadow.specs.Levels.{table_alpha}

pub length_table : (f : ℕ → ℕ) (n : ℕ) → length (table f n) ≡ n
unfolding table
length_table f zero = refl
length_table f (suc n) = simp length-append (rw (length_table f n) (omega arith))

pub table_at : (f : ℕ → ℕ) (n i : ℕ) → i < n → get_or (table f n) i 0 ≡ f i
unfolding table
table_at f zero i h = absurd (not-suc-le-zero h)
table_at f (suc n) i h = ⊎_elim (λ e. last e) (λ l. before l (table_at f n i l)) (eq-or-lt_of_le (le_of_suc-le-suc h))
  where
    before : i < n → get_or (table f n) i 0 ≡ f i → get_or (table f n ++ (f n ∷ [])) i 0 ≡ f i
    before l e = get_or-append (table f n) (f n ∷ []) 0 i (rw length_table l) ∙ e

    last : i ≡ n → get_or (table f n ++ (f n ∷ [])) i 0 ≡ f i
    last e =
        let k : i ≡ length (table f n) + 0 = omega (arith, length_table f n) in
        ap (λ (j : ℕ). get_or (table f n ++ (f n ∷ [])) j 0) k ∙ get_or-append-add (table f n) (f n ∷ []) 0 0 ∙ ap f (sym e)

-- a float that is not 96 or more, cut, is an index below 96
whole_96 : HasValue f96 false 96 1
unfolding of_bits
whole_96 = (refl, refl)

pub below_96 : (t : Float) → (f96 ≤ᶠ t) ≡ false → to_usize t < 96
below_96 t e = cut_below 64 96 t f96 (omega arith) whole_96 (failed e)

pub table_alpha_lem : (a : ℕ) (blur sd : Float) → table_alpha (table (level_of a) 97) (steps_out blur sd) ≡ alpha_of a blur sd
unfolding table_alpha alpha_of
table_alpha_lem a blur sd =
    rw (table_at (level_of a) 97 0 (omega arith))
    (split (f96 ≤ᶠ t) (λ b. cond (t ≤ᶠ f0) (level_of a 0) (cond b 0 (get_or (table (level_of a) 97) (to_usize t) 0)) ≡ cond (t ≤ᶠ f0) (level_of a 0) (cond b 0 (level_of a (to_usize t))))
    (λ e. refl)
    (λ e. rw (table_at (level_of a) 97 (to_usize t) (omega (arith, below_96 t e)))))
  where
    t : Float
    t = steps_out blur sd

pub first_level : (a : ℕ) (lut : List ℕ) → lut ≡ table (level_of a) 97 → get_or lut 0 0 ≡ level_of a 0
first_level a lut e = ap (λ (l : List ℕ). get_or l 0 0) e ∙ table_at (level_of a) 97 0 (omega arith)
