-- The coordinates of a call's points, one after another, and what an accepted call says of them. Assumes nothing.
use mathlib.Core.Path.{◌≡◌, refl, sym, ◌∙◌}
use mathlib.Core.Bool.{Bool, true, false, ◌&&◌}
use mathlib.Core.List.{List}
use Prim.Native.Nat.{ℕ, ◌+◌, ◌%◌, ◌<◌, ◌≤◌}
use native.Mathlib.Numerals.{add-one}
use native.Mathlib.Omega.{arith}
use lib.Ieee.{Float, nan}
use lib.Dec.{eqb, leb}
use lib.ListN.{length, get_or, drop, drop_of_length-le}
use lib.Seq.{drop-cons}
use borrow.Author.Tests.{leb-true}
use Rattle.geom.proofs.Bools.{and_left, and_right, split}
use Rattle.std.specs.Bool.{Decides, MatchBool}
use Rattle.std.specs.List.{All, AllWithin, HoldsAt}
use Rattle.std.proofs.lemmas.Bool.Decides.{Decides-by_and}
use Rattle.geom.specs.Plane.{float_ok}
use Rattle.geom.proofs.Refusals.{passed, then_passed}
use Rattle.gfx.proofs.Sizes.{Open, px_open}
use Rattle.gfx.specs.Calls.{unless, px_number}
use Rattle.gfx.specs.Points.{points_ok, coords_ok, points_number}
use Rattle.gfx.specs.declared.Canvas.{Canvas}

-- the test of the coordinates, one by one
coords_all : (pts : List Float) → Decides (coords_ok pts) (All (λ x. float_ok x ≡ true) pts)
unfolding coords_ok
coords_all pts = Decides-by_and float_ok (λ x. float_ok x ≡ true) coords_ok (λ x. (λ e. e, λ e. e)) refl (λ _ _. refl) pts

-- r is what `all` returns
pub coords_told : (pts : List Float) (r : Bool)
    → MatchBool r (AllWithin (λ x. float_ok x ≡ true) pts 0 (length pts)) ((k : ℕ) × (k < length pts) × HoldsAt (λ x. float_ok x ≡ false) pts k)
    → r ≡ coords_ok pts
coords_told pts true h = sym ((coords_all pts).1 (λ k d l. h k d (omega arith) l))
coords_told pts false h =
    sym (split (coords_ok pts) (λ t. t ≡ false) (λ e. sym ((coords_all pts).0 e h.0 nan h.1) ∙ h.2 nan) (λ e. refl))

-- t is the test of the coordinate at i
pub coords_turn : (pts : List Float) (i : ℕ) (d : Float) {t : Bool} → i < length pts → float_ok (get_or pts i d) ≡ t → coords_ok (drop i pts) ≡ (t && coords_ok (drop (i + 1) pts))
unfolding coords_ok
coords_turn pts i d h e = rw (drop-cons pts i d h, add-one, e)

pub coords_done : (pts : List Float) (i : ℕ) → length pts ≤ i → coords_ok (drop i pts) ≡ true
unfolding coords_ok
coords_done pts i h = rw (drop_of_length-le pts h)

-- the number after the tests of state and px: t is the test of the count, u that of the floats
pub points_passed : (c : Canvas) (n : ℕ) (pts : List Float) (others : Bool) {t u : Bool} → px_number c n ≡ 0 → points_ok pts ≡ t → (coords_ok pts && others) ≡ u
    → unless t 13 (unless u 6 0) ≡ points_number c n pts others
unfolding points_number
points_passed c n pts others e p f = rw (p, f) (then_passed _ e)

-- a call with points that is not refused
pub record OpenPoints (c : Canvas) (n : ℕ) (pts : List Float) (others : Bool) : Type 0 where
  pub canvas : Open c n
  pub points : points_ok pts ≡ true
  pub coords : coords_ok pts ≡ true
  pub floats : others ≡ true

pub points_open : (c : Canvas) (n : ℕ) (pts : List Float) (others : Bool) → points_number c n pts others ≡ 0 → OpenPoints c n pts others
unfolding points_number
points_open c n pts others e =
    let o = px_open c n _ e in
    let p = passed (points_ok pts) 12 _ o.1 in
    let f = (passed (coords_ok pts && others) 5 0 p.1).0 in
    record { canvas = o.0; points = p.0; coords = and_left _ _ f; floats = and_right (coords_ok pts) others f }

-- points that are accepted have 128 coordinates at most
pub points_few : (pts : List Float) → points_ok pts ≡ true → length pts ≤ 128
unfolding points_ok
points_few pts e = leb-true (length pts) 128 (and_right (eqb (length pts % 2) 0) (leb (length pts) 128) e)
