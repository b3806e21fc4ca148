-- Where a shadow has faded: the root, the sums and the product with the scale keep the order, so one tested distance speaks for all beyond it.
-- Assumes nothing.
use mathlib.Core.Path.{◌≡◌, refl, subst}
use mathlib.Core.Bool.{Bool, true, false, cond, ◌&&◌}
use Prim.Native.Nat.{ℕ, zero, suc, ◌*◌, ◌<◌}
use native.Mathlib.Omega.{arith}
use lib.Dec.{T, ltb→lt, not_T, eqb-suc-zero}
use lib.IntN.{ℤ, pos}
use lib.Ieee.{Float, nan, inf, fin, binary32, of_bits, up, down, add, sub, mul, div, neg, lt, eq, le, fits}
use lib.Ieee.Bits.{is_true, is_false}
use lib.Ieee.Fits.{and_l, and_r}
use lib.Ieee.Scale.{finite}
use Rattle.mathf.specs.F32.{◌+ᶠ◌, ◌-ᶠ◌, ◌*ᶠ◌, ◌/ᶠ◌, ◌<ᶠ◌, ◌≤ᶠ◌, f0, f2, f96}
use Rattle.mathf.specs.Root.{sqrt_of}
use Rattle.mathf.proofs.Compared.{le_same, le_through, or_l}
use Rattle.mathf.proofs.Monotone.{mul_mono, sqrt_mono}
use Rattle.mathf.proofs.Saturating.{passed}
use Rattle.paints.proofs.Covers.{finite_between, sum_above}
use Rattle.shadow.specs.Shadow.{steps_out, alpha_of}
use Rattle.shadow.specs.Levels.{Faded}

abbrev z0 : Float
z0 = fin false 0 (pos 0)

abbrev z96 : Float
z96 = fin false 3 (pos 5)

abbrev big : Float
big = fin false 1 (pos 20)

-- a sum, and a product with a positive number
above : (b x y w : Float) → T (finite b) → T (le x y) → T (le b (add binary32 x w)) → T (le b (add binary32 y w))
above nan x y w p h k = absurd p
above (inf s) x y w p h k = absurd p
above (fin s m e) x y w p h k = sum_above s m e x y w h k

no_room : (q : ℤ) → 0 * 1 * down q < zero * up q * 1 → ⊥
no_room q h = none (down q) (up q) h
  where
    none : (d u : ℕ) → 0 * 1 * d < 0 * u * 1 → ⊥
    none d u h = omega arith

le_of_lt : (x y : Float) → T (lt x y) → T (le x y)
unfolding le
le_of_lt x y t = or_l (lt x y) (eq x y) t

times_above : (n y s : Float) → T (finite n) → T (finite s) → T (le z0 n) → T (lt z0 s) → T (le n y) → T (le z96 (mul binary32 n s)) → T (le z96 (mul binary32 y s))
unfolding le lt eq mul
times_above nan y s p q z l h k = absurd p
times_above (inf t) y s p q z l h k = absurd p
times_above (fin t m e) y nan p q z l h k = absurd q
times_above (fin t m e) y (inf u) p q z l h k = absurd q
times_above (fin t m e) nan (fin u i g) p q z l h k = absurd h
times_above (fin t m e) (inf true) (fin u i g) p q z l h k = absurd h
times_above (fin t m e) (inf false) (fin true i g) p q z l h k = absurd l
times_above (fin t m e) (inf false) (fin false zero g) p q z l h k = absurd (no_room g (ltb→lt _ _ l))
times_above (fin t m e) (inf false) (fin false (suc i) g) p q z l h k = rw (eqb-suc-zero i) tt
times_above (fin t m e) (fin t' m' e') (fin u i g) p q z l h k =
    let s = fin u i g in
    le_through z96 (mul binary32 (fin t m e) s) (mul binary32 (fin t' m' e') s) k
    (mul_mono binary32 (fin t m e) (fin t' m' e') s s tt tt tt tt z (le_of_lt z0 s l) h (le_same s tt))

-- 96 levels out there is no alpha
pick : (x y : Bool) (a b : ℕ) → x ≡ false → y ≡ true → cond x a (cond y 0 b) ≡ 0
pick x y a b p q = rw (p, q)

far_low : T (le z96 z0) → ⊥
unfolding le lt eq
far_low t = t

no_alpha : (a : ℕ) (blur sd : Float) → T (le z96 (steps_out blur sd)) → alpha_of a blur sd ≡ 0
unfolding alpha_of of_bits
no_alpha a blur sd h =
    let t = steps_out blur sd in
    pick (le t z0) (le z96 t) _ _ (is_false (le t z0) (not_T (le t z0) (λ l. far_low (le_through z96 t z0 h l)))) (is_true (le z96 t) h)

all : {P : Type 0} (a b c d e f g h : Bool) → (T a → T b → T c → T d → T e → T f → T g → T h → P) → T (((a && b) && ((c && d) && e)) && ((f && g) && h)) → P
all a b c d e f g h k t =
    let o = and_l ((a && b) && ((c && d) && e)) ((f && g) && h) t in
    let u = and_r ((a && b) && ((c && d) && e)) ((f && g) && h) t in
    let p = and_l (a && b) ((c && d) && e) o in
    let q = and_r (a && b) ((c && d) && e) o in
    let x = and_l (c && d) e q in
    let y = and_l (f && g) h u in
    k (and_l a b p) (and_r a b p) (and_l c d x) (and_r c d x) (and_r (c && d) e q) (and_l f g y) (and_r f g y) (and_r (f && g) h u)

-- what the code tests of a squared distance k, with a distance m out
abbrev Tests : Float → Float → Float → Float → Float → Bool
Tests k r blur scale m =
    (((f0 ≤ᶠ k) && (m ≤ᶠ sqrt_of k -ᶠ r)) && (((f0 <ᶠ scale) && (scale ≤ᶠ of_bits binary32 0x4980_0000)) && (f96 ≤ᶠ (m +ᶠ blur) *ᶠ scale)))
    && (((f0 ≤ᶠ m) && (m ≤ᶠ m +ᶠ blur)) && (m +ᶠ blur ≤ᶠ of_bits binary32 0x4980_0000))

module _ (k r blur scale m : Float) (f : T (fits binary32 k)) (same : scale ≡ f96 /ᶠ (f2 *ᶠ blur)) where
  beyond : T (le z0 k) → T (le m (sqrt_of k -ᶠ r)) → T (lt z0 scale) → T (le scale big) → T (le z96 ((m +ᶠ blur) *ᶠ scale)) → T (le z0 m) → T (le m (m +ᶠ blur)) → T (le (m +ᶠ blur) big) → Faded r blur k
  unfolding Faded sub steps_out
  beyond t₀ t₁ t₂ t₃ t₄ t₅ t₆ t₇ = λ a d g h.
      let n = m +ᶠ blur in
      let zn = le_through z0 m n t₅ t₆ in
      let fn = finite_between z0 n big tt tt zn t₇ in
      let fm = finite_between z0 m n tt fn t₅ t₆ in
      let fs = finite_between z0 scale big tt tt (le_of_lt z0 scale t₂) t₃ in
      let out = above m (sqrt_of k) (sqrt_of d) (neg r) fm (sqrt_mono k d f g t₀ (passed h)) t₁ in
      let sum = above n m (sqrt_of d -ᶠ r) blur fn out (le_same n fn) in
      no_alpha a blur (sqrt_of d -ᶠ r)
      (subst (λ (x : Float). T (le z96 ((sqrt_of d -ᶠ r +ᶠ blur) *ᶠ x))) same (times_above n (sqrt_of d -ᶠ r +ᶠ blur) scale fn fs zn t₂ sum t₄))

  pub faded_at : Tests k r blur scale m ≡ true → Faded r blur k
  unfolding of_bits
  faded_at e =
      let n = m +ᶠ blur in
      all (le z0 k) (le m (sqrt_of k -ᶠ r)) (lt z0 scale) (le scale big) (le z96 (n *ᶠ scale)) (le z0 m) (le m n) (le n big) beyond (passed e)

nan_low : (x k : Float) → x ≡ nan → T (le x k) → ⊥
unfolding le lt eq
nan_low x k e h = subst (λ (z : Float). T (le z k)) e h

no_number : f0 /ᶠ f0 ≡ nan
unfolding div of_bits
no_number = refl

pub faded_none : (r blur : Float) → Faded r blur (f0 /ᶠ f0)
faded_none r blur = λ a d g h. absurd (nan_low (f0 /ᶠ f0) d no_number (passed h))
