-- The Rust brings the ends of a middle to the columns x0 up to x1 of a row before it uses them, and the definitions of fill,
-- stroke and shadow leave that out. It changes no pixel: of the row's own columns the same lie between the ends, and those on
-- both sides are treated alike.
--     clamped_columns    the first end brought to x0 up to x1, the second to those from there on: `fill_rrect`, `stroke_rrect`,
--                        and a row of `shadow_rrect` that is not straight
--     crossed_columns    each end brought to x0 up to x1, and where they meet or cross, one column for both: a straight row of
--                        `shadow_rrect`
-- Assumes nothing.
use mathlib.Core.Path.{◌≡◌, refl, sym, ap, ◌∙◌}
use mathlib.Core.Bool.{Bool, true, false, cond, ◌&&◌}
use Prim.Native.Nat.{ℕ}
use lib.IntN.{ℤ, pos}
use lib.Signed.{le_z, lt_z}
use Rattle.geom.specs.Int.{max_z, min_z}
use Rattle.geom.proofs.Bools.{split}
use Rattle.geom.proofs.Int.{order_z}
use Rattle.draw.specs.Draw.{in_columns}

-- `v.clamp(lo, hi)` of two i32 in order
abbrev pub clamp_z : ℤ → ℤ → ℤ → ℤ
clamp_z v lo hi = max_z lo (min_z v hi)

-- which side of an end a column x from lo up to hi lies on does not turn on the clamp
module _ (v lo hi : ℤ) (x : ℕ) (l : le_z lo (pos x) ≡ true) (h : lt_z (pos x) hi ≡ true) where
  from_end : le_z (clamp_z v lo hi) (pos x) ≡ le_z v (pos x)
  unfolding max_z min_z
  from_end = go (le_z v hi) refl
    where
      go : (s : Bool) → le_z v hi ≡ s → le_z (cond (le_z lo (cond s v hi)) (cond s v hi) lo) (pos x) ≡ le_z v (pos x)
      go true p =
          split (le_z lo v) (λ t. le_z (cond t v lo) (pos x) ≡ le_z v (pos x)) (λ q. refl)
          (λ q. let e : le_z v (pos x) ≡ true = omega order_z in l ∙ sym e)
      go false p =
          let e : le_z v (pos x) ≡ false = omega order_z in
          let r : le_z lo hi ≡ true = omega order_z in
          let f : le_z hi (pos x) ≡ false = omega order_z in
          rw r (f ∙ sym e)

  upto_end : lt_z (pos x) (clamp_z v lo hi) ≡ lt_z (pos x) v
  unfolding max_z min_z
  upto_end = go (le_z v hi) refl
    where
      go : (s : Bool) → le_z v hi ≡ s → lt_z (pos x) (cond (le_z lo (cond s v hi)) (cond s v hi) lo) ≡ lt_z (pos x) v
      go true p =
          split (le_z lo v) (λ t. lt_z (pos x) (cond t v lo) ≡ lt_z (pos x) v) (λ q. refl)
          (λ q. let e : lt_z (pos x) v ≡ false = omega order_z in let f : lt_z (pos x) lo ≡ false = omega order_z in f ∙ sym e)
      go false p =
          let e : lt_z (pos x) v ≡ true = omega order_z in
          let r : le_z lo hi ≡ true = omega order_z in
          rw r (h ∙ sym e)

same_and : (t : Bool) {u v : Bool} → (t ≡ true → u ≡ v) → (t && u) ≡ (t && v)
same_and true f = f refl
same_and false f = refl

-- no column lies between ends that meet or cross
none_between : (p q : ℤ) (x : ℕ) → le_z q p ≡ true → in_columns p q x ≡ false
unfolding in_columns
none_between p q x h = split (le_z p (pos x)) (λ t. (t && lt_z (pos x) q) ≡ false) (λ e. omega order_z) (λ e. refl)

-- the ends a and b of a middle, at a column of the row
module _ (x0 x1 a b : ℤ) (x : ℕ) (l : le_z x0 (pos x) ≡ true) (h : lt_z (pos x) x1 ≡ true) where
  pub clamped_columns : in_columns (clamp_z a x0 x1) (clamp_z b (clamp_z a x0 x1) x1) x ≡ in_columns a b x
  unfolding in_columns
  clamped_columns =
      let a' = clamp_z a x0 x1 in
      same_and (le_z a' (pos x)) (λ e. upto_end b a' x1 x e h) ∙ ap (λ (t : Bool). t && lt_z (pos x) b) (from_end a x0 x1 x l h)

  both_ends : in_columns (clamp_z a x0 x1) (clamp_z b x0 x1) x ≡ in_columns a b x
  unfolding in_columns
  both_ends =
      same_and (le_z (clamp_z a x0 x1) (pos x)) (λ e. upto_end b x0 x1 x l h) ∙ ap (λ (t : Bool). t && lt_z (pos x) b) (from_end a x0 x1 x l h)

  -- m is the column of the rectangle's middle, and any would do
  pub crossed_columns : (m : ℤ) → let a' = clamp_z a x0 x1 in let b' = clamp_z b x0 x1 in
      in_columns (cond (le_z b' a') m a') (cond (le_z b' a') m b') x ≡ in_columns a b x
  crossed_columns m =
      let a' = clamp_z a x0 x1 in
      let b' = clamp_z b x0 x1 in
      split (le_z b' a') (λ t. in_columns (cond t m a') (cond t m b') x ≡ in_columns a b x)
      (λ e. none_between m m x (omega order_z) ∙ sym (none_between a' b' x e) ∙ both_ends)
      (λ e. both_ends)
