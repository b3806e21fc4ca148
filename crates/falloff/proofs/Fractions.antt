-- The table of fractions on file: its rule is a test at each entry, which is computed over the whole table, and one law. Assumes nothing.
use mathlib.Core.Path.{◌≡◌, ap, ◌∙◌}
use mathlib.Core.Bool.{Bool, true, ◌&&◌}
use mathlib.Core.List.{List, [], ◌∷◌}
use Prim.Native.Nat.{ℕ, zero, suc, ◌*◌, ◌^◌, ◌<◌}
use native.Mathlib.Nat.{le_of_suc-le-suc, not-suc-le-zero}
use lib.Dec.{eqb, ltb}
use lib.ListN.{length, get_or}
use lib.Ieee.{Float, binary32, of_bits}
use lib.Ieee.Bits.{of_bits-to_bits}
use lib.Ieee.Fits.{sub-fits}
use borrow.Author.Tests.{eqb-true, ltb-true}
use Rattle.mathf.specs.F32.{◌/ᶠ◌, of_ℕᶠ, f1, f96}
use Rattle.mathf.specs.Lerp.{curve_of}
use Rattle.geom.proofs.Bools.{and_left, and_right}
use Rattle.falloff.specs.Falloff.{fraction_of, fraction_bits, level_by, OnFile, level_of}

-- the test f passes at each place of a list and the entry there
abbrev pub every : (ℕ → ℕ → Bool) → List ℕ → Bool
every f [] = true
every f (x ∷ xs) = f 0 x && every (λ k. f (suc k)) xs

at : (f : ℕ → ℕ → Bool) (xs : List ℕ) → every f xs ≡ true → (i : ℕ) → i < length xs → f i (get_or xs i 0) ≡ true
at f [] t i h = absurd (not-suc-le-zero h)
at f (x ∷ xs) t zero h = and_left (f 0 x) (every (λ k. f (suc k)) xs) t
at f (x ∷ xs) t (suc i) h = at (λ k. f (suc k)) xs (and_right (f 0 x) (every (λ k. f (suc k)) xs) t) i (le_of_suc-le-suc h)

-- an entry has the bits of its fraction, and is the pattern of a finite number, sign bit 0
unfoldable pub right : ℕ → ℕ → Bool
right i x = eqb x (fraction_bits i) && ltb x (255 * 2 ^ 23)

-- a list of 97 entries that passes this test at each is the table on file
pub on_file : (patterns : List ℕ) → length patterns ≡ 97 → every right patterns ≡ true → OnFile patterns
unfolding right
on_file patterns n t = record {
  long = n;
  entry = λ i h. eqb-true (get_or patterns i 0) (fraction_bits i) (and_left (eqb (get_or patterns i 0) (fraction_bits i)) (ltb (get_or patterns i 0) (255 * 2 ^ 23)) (place i h));
  number = λ i h. ltb-true (get_or patterns i 0) (255 * 2 ^ 23) (and_right (eqb (get_or patterns i 0) (fraction_bits i)) (ltb (get_or patterns i 0) (255 * 2 ^ 23)) (place i h));
}
  where
    place : (i : ℕ) → i < 97 → right i (get_or patterns i 0) ≡ true
    place i h = at right patterns t i (rw n h)

fraction_is : (i : ℕ) → of_bits binary32 (fraction_bits i) ≡ fraction_of i
unfolding fraction_bits
fraction_is i = of_bits-to_bits binary32 (fraction_of i) (sub-fits binary32 f1 (curve_of (of_ℕᶠ i /ᶠ f96)))

-- what is made of entry i is level i
pub level_on_file : (patterns : List ℕ) → OnFile patterns → (a i : ℕ) → i < 97 → level_by (of_bits binary32 (get_or patterns i 0)) a ≡ level_of a i
unfolding level_of
level_on_file patterns t a i h = ap (λ (f : Float). level_by f a) (ap (of_bits binary32) (t.entry i h) ∙ fraction_is i)
