-- Columns of an outline beside no corner. Assumes nothing.
use mathlib.Core.Path.{◌≡◌, ◌∙◌}
use mathlib.Core.Bool.{true, false, not}
use mathlib.Core.Logic.{⊎_elim}
use mathlib.Core.List.{List}
use Prim.Native.Nat.{ℕ, ◌+◌, ◌-◌, ◌<◌, ◌≤◌}
use native.Mathlib.Nat.{eq-or-lt_of_le}
use native.Mathlib.Omega.{arith}
use borrow.Author.Tests.{not-true}
use lib.ListN.{length, get_or, set}
use lib.Ieee.{Float}
use lib.Ieee.Bits.{is_true}
use Rattle.std.specs.List.{AllWithin, range_with_len}
use Rattle.std.proofs.lemmas.List.FromFn.{length-range_with_len, get_or-range_with_len}
use Rattle.draw.specs.Held.{Holds}
use Rattle.draw.proofs.Held.{Filling, held_start, held_next}
use Rattle.mathf.specs.F32.{◌-ᶠ◌, ◌≤ᶠ◌, ◌<ᶠ◌, f0}
use Rattle.mathf.specs.Order.{fabs_of}
use Rattle.mathf.proofs.Compared.{not_lt_of_le, le_through}
use Rattle.mathf.proofs.Saturating.{passed}
use Rattle.paints.specs.declared.Rounded.{Rounded}
use Rattle.paints.specs.Paints.{centre_of, rounded_sd, corner_sd, rrect_sd}
use Rattle.stroke.specs.declared.Level.{Level}
use Rattle.stroke.specs.Stroke.{band_cover}
use Rattle.stroke.specs.Rows.{LevelIn}

module _ (s : Rounded) (a : ℕ) where
  pub level_none : (b : ℕ) → b ≤ a → LevelIn s a b
  unfolding LevelIn
  level_none b h x l u = absurd (omega arith)

  pub level_more : (b : ℕ) → LevelIn s a b → (fabs_of (centre_of b -ᶠ s.cx) -ᶠ (s.hw -ᶠ s.r) ≤ᶠ f0) ≡ true → LevelIn s a (b + 1)
  unfolding LevelIn
  level_more b i e x l u = ⊎_elim (λ q. rw q e) (λ m. i x l m) (eq-or-lt_of_le (omega arith))

  pub level_upto : (b d : ℕ) → LevelIn s a b → d ≤ b → LevelIn s a d
  unfolding LevelIn
  level_upto b d i h x l u = i x l (omega arith)

  -- as the columns are listed
  pub level_all : (b : ℕ) → AllWithin (λ x. (fabs_of (centre_of x -ᶠ s.cx) -ᶠ (s.hw -ᶠ s.r) ≤ᶠ f0) ≡ true) (range_with_len a (b - a)) 0 (length (range_with_len a (b - a)))
      → LevelIn s a b
  unfolding LevelIn
  level_all b i x l u =
      let k = x - a in
      let at : get_or (range_with_len a (b - a)) k 0 ≡ x = get_or-range_with_len a (b - a) k 0 (omega arith) ∙ omega arith in
      rw at at (i k 0 (omega arith) (omega (arith, length-range_with_len a (b - a))))

-- a test that fails, by one that holds
pub not_above : (x y : Float) → (x ≤ᶠ y) ≡ true → (y <ᶠ x) ≡ false
not_above x y e = not-true (y <ᶠ x) (is_true (not (y <ᶠ x)) (not_lt_of_le x y (passed e)))

-- beside no corner, a row that is past the sides has one coverage
pub level_at : (l : Level) (a b x : ℕ) → LevelIn l.o.s a b → (f0 ≤ᶠ l.qy) ≡ true → a ≤ x → x < b
    → l.level ≡ band_cover (rounded_sd l.o.s (centre_of x) l.yc) l.o.width
unfolding LevelIn rrect_sd corner_sd
level_at l a b x i q h u =
    let qx = fabs_of (centre_of x -ᶠ l.o.s.cx) -ᶠ (l.o.s.hw -ᶠ l.o.s.r) in
    let in' : (qx ≤ᶠ f0) ≡ true = i x h u in
    rw (← l.past, not_above qx f0 in', not_above qx l.qy (is_true (qx ≤ᶠ l.qy) (le_through qx f0 l.qy (passed in') (passed q)))) l.covered

-- a row of numbers that is filled from its first place on
module _ (f : ℕ → ℕ) (row : List ℕ) (size : ℕ) (long : length row ≡ size) where
  pub first_none : Holds f 0 0 row
  first_none =
      let i : Filling f size 0 0 row 0 = held_start long (omega arith) in
      i.held

  pub first_more : (k v : ℕ) → k < size → Holds f 0 k row → v ≡ f k → Holds f 0 (k + 1) (set row k v)
  first_more k v h i e =
      let now' : Filling f size 0 size row k = record { held = i; long = long; from = omega arith; to = omega arith } in
      let next : Filling f size 0 size (set row k v) (k + 1) = held_next (omega arith) now' h e in
      next.held
