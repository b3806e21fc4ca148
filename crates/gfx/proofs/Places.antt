-- The test of the saved clips, place by place. Assumes nothing.
use mathlib.Core.Path.{◌≡◌, refl, sym, ap, ◌∙◌}
use mathlib.Core.Bool.{Bool, true, false, cond, ◌&&◌, true≢false, and-false}
use mathlib.Core.Logic.{⊎_elim}
use Prim.Native.Nat.{ℕ, zero, suc, ◌+◌, ◌<◌}
use native.Mathlib.Nat.{eq-or-lt_of_le, le_of_suc-le-suc, not-suc-le-zero}
use native.Mathlib.Omega.{arith}
use native.Mathlib.Numerals.{add-one}
use Rattle.geom.proofs.Bools.{and_left, and_right, and_both, split}
use lib.IntN.{ℤ, pos, negsuc}
use borrow.Author.Tests.{eqb-true}
use lib.Dec.{ltb}
use lib.ListN.{length, get_or}
use native.Mathlib.Nat.{zero-add}
use Rattle.std.specs.Bool.{one_answer, MatchBool}
use Rattle.std.specs.List.{AllWithin, HoldsAt, enumerate_from}
use Rattle.std.proofs.lemmas.List.FromFn.{length-enumerate_from, get_or-enumerate_from}
use Rattle.std.specs.Ordering.{int_eq}
use Rattle.std.proofs.lemmas.Bool.Decides.{Decides-int_eq}
use Rattle.geom.specs.Int.{eq_z}
use Rattle.geom.specs.declared.IRect.{IRect}
use Rattle.geom.specs.Box.{no_box}
use Rattle.gfx.specs.State.{clip_ok, both_zero, four_zeros, place_ok, places_ok}
use Rattle.gfx.specs.declared.Canvas.{Canvas}

-- a free place as `==` tests it
zero_is : (z : ℤ) → int_eq z (pos 0) ≡ eq_z z (pos 0)
zero_is z = one_answer (int_eq z (pos 0)) (eq_z z (pos 0)) (Decides-int_eq z (pos 0)) (none z, λ q. rw q)
  where
    none : (z : ℤ) → eq_z z (pos 0) ≡ true → z ≡ pos 0
    none (pos n) e = ap pos (eqb-true n 0 e)
    none (negsuc n) e = absurd (true≢false (sym e))

pub zeros_is : (b : IRect)
    → (int_eq b.x0 (pos 0) && (int_eq b.y0 (pos 0) && (int_eq b.x1 (pos 0) && int_eq b.y1 (pos 0)))) ≡ four_zeros b
unfolding four_zeros both_zero
zeros_is b = rw (zero_is b.x0, zero_is b.y0, zero_is b.x1, zero_is b.y1) (pairs (eq_z b.x0 (pos 0)) (eq_z b.y0 (pos 0)) (eq_z b.x1 (pos 0) && eq_z b.y1 (pos 0)))
  where
    pairs : (p q r : Bool) → (p && (q && r)) ≡ ((p && q) && r)
    pairs true q r = refl
    pairs false q r = refl

pub places_none : (c : Canvas) → places_ok c 0 ≡ true
unfolding places_ok
places_none c = refl

pub places_more : (c : Canvas) (i : ℕ) → places_ok c i ≡ true → place_ok c i ≡ true → places_ok c (i + 1) ≡ true
unfolding places_ok
places_more c i p q = rw (add-one, p, q)

pub places_fail : (c : Canvas) (i n : ℕ) → i < n → place_ok c i ≡ false → places_ok c n ≡ false
unfolding places_ok
places_fail c i zero h q = absurd (not-suc-le-zero h)
places_fail c i (suc n) h q =
    ⊎_elim (λ e. rw (← e) (rw q (and-false (places_ok c i)))) (λ k. rw (places_fail c i n k q))
    (eq-or-lt_of_le (le_of_suc-le-suc h))

-- the test says that each place is all right, and the other way round
pub places_at : (c : Canvas) (n : ℕ) → places_ok c n ≡ true → (i : ℕ) → i < n → place_ok c i ≡ true
unfolding places_ok
places_at c zero p i h = absurd (not-suc-le-zero h)
places_at c (suc n) p i h =
    ⊎_elim (λ e. rw e (and_right (places_ok c n) (place_ok c n) p))
    (λ k. places_at c n (and_left (places_ok c n) (place_ok c n) p) i k) (eq-or-lt_of_le (le_of_suc-le-suc h))

pub places_all : (c : Canvas) (n : ℕ) → ((i : ℕ) → i < n → place_ok c i ≡ true) → places_ok c n ≡ true
unfolding places_ok
places_all c zero f = refl
places_all c (suc n) f = and_both (places_all c n (λ i h. f i (omega arith))) (f n (omega arith))

-- a place of the list, with its index, as `place_ok` tests it
abbrev pub tested : Canvas → ℕ × IRect → Bool
tested c p = cond (ltb p.0 c.depth) (clip_ok c.w c.h p.1) (four_zeros p.1)

at : (c : Canvas) (k : ℕ) → k < length c.saved → tested c (get_or (enumerate_from 0 c.saved) k (0, no_box)) ≡ place_ok c k
unfolding place_ok
at c k l = rw (get_or-enumerate_from 0 c.saved k (0, no_box) l, zero-add k)

-- r is what `all` returns of them
pub places_told : (c : Canvas) (r : Bool) → length c.saved ≡ 16
    → MatchBool r (AllWithin (λ p. tested c p ≡ true) (enumerate_from 0 c.saved) 0 (length (enumerate_from 0 c.saved)))
    ((k : ℕ) × (k < length (enumerate_from 0 c.saved)) × HoldsAt (λ p. tested c p ≡ false) (enumerate_from 0 c.saved) k)
    → r ≡ places_ok c 16
places_told c true n h =
    sym (places_all c 16 (λ k l. sym (at c k (omega (arith, n))) ∙ h k (0, no_box) (omega arith) (omega (arith, n, length-enumerate_from 0 c.saved))))
places_told c false n h =
    let l : h.0 < length c.saved = omega (arith, h.1, length-enumerate_from 0 c.saved) in
    sym (split (places_ok c 16) (λ t. t ≡ false) (λ e. sym (places_at c 16 e h.0 (omega (arith, n))) ∙ sym (at c h.0 l) ∙ h.2 (0, no_box)) (λ e. refl))
