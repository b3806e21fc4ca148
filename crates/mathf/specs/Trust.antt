-- What the root, the floor and the ceiling are, said without the means that define them. `IsRoot` and `NextWhole` are the claims;
-- proofs/Trust.antt proves them. Assumes nothing.
use Rattle.std.specs.Prelude.{◌≡◌, ℕ, ◌+◌, ◌*◌, ◌^◌, ◌<◌, Bool, false, T, pos, Float}
use Rattle.std.specs.Float.{nan, inf, fin, binary32}
use Rattle.std.specs.Float.Ieee.{fits}
use Rattle.std.specs.Float.Ieee.Digits.{Equals}
use Rattle.std.specs.Float.Ieee.Exact.{HasValue}
use Rattle.std.specs.Float.Ieee.Positive.{positive}
use Rattle.std.specs.Float.Ieee.Scale.{finite}
use Rattle.mathf.specs.F32.{◌<ᶠ◌, ◌≤ᶠ◌, f0}
use Rattle.mathf.specs.Root.{sqrt_of}
use Rattle.mathf.specs.Whole.{floor_of, ceil_of}

-- y is no nearer to the exact root of x than r is. In units of 2 ^ -149, the smallest f32, x is n, r is v and y is u in size, and
-- the exact root is the root of n * 2 ^ 149. Where u is below v, so is their middle below the root; where u is above v, so is
-- their middle above the root. Twice the middle is u + v. There is no tie.
pub record NoNearer (x r y : Float) : Type 0 where
  pub n : ℕ
  pub v : ℕ
  pub u : ℕ
  pub x_is : HasValue x false n (2 ^ 149)
  pub r_is : HasValue r false v (2 ^ 149)
  pub y_is : Equals y u (2 ^ 149)
  pub below : u < v → (u + v) * (u + v) < 4 * (n * 2 ^ 149)
  pub above : v < u → 4 * (n * 2 ^ 149) < (u + v) * (u + v)

-- The root of an f32 is an f32. Of a finite one above zero no f32 is nearer to the exact root; the root of -0 is -0, of a
-- negative number a NaN.
pub record IsRoot : Type 0 where
  pub fit : (x : Float) → T (fits binary32 x) → T (fits binary32 (sqrt_of x))
  pub no_nearer :
      (x y : Float) → T (fits binary32 x) → T (positive x) → T (fits binary32 y) → T (finite y) → NoNearer x (sqrt_of x) y
  pub of_zero : (s : Bool) → sqrt_of (fin s 0 (pos 0)) ≡ fin s 0 (pos 0)
  pub of_negative : (x : Float) → T (x <ᶠ f0) → sqrt_of x ≡ nan
  pub of_infinity : sqrt_of (inf false) ≡ inf false
  pub of_nan : sqrt_of nan ≡ nan

-- x is finite and has the sign s; of zeros too, `fin true 0 (pos 0)` being -0
abbrev pub HasSign : Float → Bool → Type 0
HasSign nan s = ⊥
HasSign (inf t) s = ⊥
HasSign (fin t m e) s = t ≡ s

-- r is a whole number `before` x, and each whole number `before` x is `before` r too. It has the sign of x, also where it is
-- zero. `fin s n (pos 0)` is the whole number n with the sign s; it need be no f32, floats are compared exactly.
pub record LastBefore (before : Float → Float → Bool) (x r : Float) : Type 0 where
  pub sign : Bool
  pub size : ℕ
  pub signed : HasSign x sign
  pub whole : HasValue r sign size 1
  pub itself : T (before r x)
  pub last : (s : Bool) (n : ℕ) → T (before (fin s n (pos 0)) x) → T (before (fin s n (pos 0)) r)

-- of an f32 f gives an f32: of a finite one the last whole number `before` it; zeros, infinities and a NaN come back, with their
-- sign
pub record ToWhole (before : Float → Float → Bool) (f : Float → Float) : Type 0 where
  pub fit : (x : Float) → T (fits binary32 x) → T (fits binary32 (f x))
  pub next : (x : Float) → T (fits binary32 x) → T (finite x) → LastBefore before x (f x)
  pub of_zero : (s : Bool) → f (fin s 0 (pos 0)) ≡ fin s 0 (pos 0)
  pub of_infinity : (s : Bool) → f (inf s) ≡ inf s
  pub of_nan : f nan ≡ nan

-- the floor is the greatest whole number not above, the ceiling the least not below: the ceiling of -0.3 is -0
pub record NextWhole : Type 0 where
  pub floor : ToWhole (λ a b. a ≤ᶠ b) floor_of
  pub ceil : ToWhole (λ a b. b ≤ᶠ a) ceil_of
