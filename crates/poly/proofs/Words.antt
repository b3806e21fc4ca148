-- Lists of f32 words under stores: one more word cleared. Assumes nothing.
use mathlib.Core.Path.{◌≡◌, refl, ap, ◌∙◌}
use mathlib.Core.List.{List, [], ◌∷◌, ◌++◌, append-nil}
use Prim.Native.Nat.{ℕ, zero, suc, ◌+◌, ◌<◌}
use native.Mathlib.Nat.{not-suc-le-zero, le_of_suc-le-suc}
use native.Mathlib.Numerals.{add-one}
use lib.ListN.{length, set, drop, replicate}
use lib.Seq.{drop-length}
use lib.Ieee.{Float}

fill_suc : (n : ℕ) (v : Float) (d : List Float) → n < length d → set (replicate n v ++ drop n d) n v ≡ replicate (suc n) v ++ drop (suc n) d
fill_suc n v [] l = absurd (not-suc-le-zero l)
fill_suc zero v (x ∷ d) l = refl
fill_suc (suc n) v (x ∷ d) l = ap (λ (t : List Float). v ∷ t) (fill_suc n v d (le_of_suc-le-suc l))

pub fill_more : (n : ℕ) (v : Float) (d : List Float) → n < length d → set (replicate n v ++ drop n d) n v ≡ replicate (n + 1) v ++ drop (n + 1) d
fill_more n v d l = rw add-one (fill_suc n v d l)

-- all of a list
pub fill_all : (v : Float) (d : List Float) → replicate (length d) v ++ drop (length d) d ≡ replicate (length d) v
fill_all v d = ap (λ (t : List Float). replicate (length d) v ++ t) (drop-length d) ∙ append-nil (replicate (length d) v)
