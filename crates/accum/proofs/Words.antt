-- Lists of f32 words under stores: one more word added to, and words of a part added to. Assumes nothing.
use mathlib.Core.Path.{◌≡◌, refl, sym, ap, ◌∙◌}
use mathlib.Core.List.{List, ◌++◌}
use Prim.Native.Nat.{ℕ, zero, suc, ◌+◌, ◌-◌, ◌≤◌, ◌<◌}
use native.Mathlib.Numerals.{add-one}
use native.Mathlib.Nat.{zero-add}
use native.Mathlib.Omega.{arith}
use lib.ListN.{length, get_or, set, take, length-set, get_or-append}
use lib.Seq.{length-take-le, set-append_left}
use lib.Ieee.{Float, nan}
use borrow.Rule.Slice.PartMut.{put_mid, mid_of, post_of, put_same}
use Rattle.std.proofs.lemmas.List.{set-append_right, get_or-append_right}
use Rattle.mathf.specs.F32.{◌+ᶠ◌}
use Rattle.accum.specs.Accum.{bump_at, bump_run}

pub bump_run_more : (a : List Float) (i n : ℕ) (v : Float) → bump_run a i (n + 1) v ≡ bump_at (bump_run a i n v) (i + n) v
unfolding bump_run
bump_run_more a i n v = ap (λ (k : ℕ). bump_run a i k v) (add-one n)

length_bumped : (a : List Float) (i n : ℕ) (v : Float) → length (bump_run a i n v) ≡ length a
unfolding bump_run
length_bumped a i zero v = refl
length_bumped a i (suc n) v = length-set _ _ _ ∙ length_bumped a i n v

-- v added to word n of the k from i
bump_within : (a : List Float) (i k n : ℕ) (v : Float) (xs : List Float) → i ≤ length a → n < length xs
    → put_mid i k a (bump_at xs n v) ≡ bump_at (put_mid i k a xs) (i + n) v
bump_within a i k n v xs h l =
    let after = post_of i k a in
    let t : length (take i a) ≡ i = length-take-le i a h in
    let m : i + n - i ≡ n = omega arith in
    let w = get_or xs n nan +ᶠ v in
    let g : get_or (put_mid i k a xs) (i + n) nan ≡ get_or xs n nan =
    get_or-append_right (take i a) (xs ++ after) i (i + n) nan t (omega arith) ∙ rw m (get_or-append xs after nan n l) in
    let s : set (put_mid i k a xs) (i + n) w ≡ put_mid i k a (set xs n w) =
    set-append_right (take i a) (xs ++ after) i (i + n) w t (omega arith) ∙ rw m (ap (λ (z : List Float). take i a ++ z) (set-append_left xs after n w l)) in
    sym (ap (λ (y : Float). set (put_mid i k a xs) (i + n) (y +ᶠ v)) g ∙ s)

-- v added to the first n of the k words from i
pub bump_part : (a : List Float) (i k : ℕ) (v : Float) (n : ℕ) → i ≤ length a → n ≤ length (mid_of i k a)
    → put_mid i k a (bump_run (mid_of i k a) 0 n v) ≡ bump_run a i n v
unfolding bump_run
bump_part a i k v zero h l = put_same i k a
bump_part a i k v (suc n) h l =
    let ms = mid_of i k a in
    rw zero-add
    (bump_within a i k n v (bump_run ms 0 n v) h (omega (arith, length_bumped ms 0 n v)) ∙ ap (λ (t : List Float). bump_at t (i + n) v) (bump_part a i k v n h (omega arith)))
