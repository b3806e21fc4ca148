-- Reading at a place: bytes past the end, the patterns of NaN, and tests at one place after another. Assumes nothing.
use Prim.Native.Nat.{ℕ, zero, suc, ◌+◌, ◌*◌, ◌<◌, ◌≤◌, ◌%◌}
use mathlib.Core.Path.{◌≡◌, refl, sym, ◌∙◌}
use mathlib.Core.Bool.{Bool, true, false, not, false≢true}
use mathlib.Core.List.{List}
use native.Mathlib.Nat.{add-zero, mul-zero, mul-suc}
use native.Mathlib.Numerals.{add-one}
use native.Mathlib.Omega.{arith}
use lib.Dec.{T}
use lib.ListN.{length, get_or-eq_default}
use lib.Ieee.{Float, nan, inf, fin, binary32, of_bits, is_nan, nan_bits}
use lib.Ieee.Bits.{nan_bits_is, nan_bits_above}
use borrow.Author.Tests.{lt-ltb, le-ltb}
use Rattle.geom.proofs.Bools.{and_left, and_right}
use Rattle.sheet.specs.Bytes.{byte_at, u16_at, u32_at, all_at}

-- ---- past the end

pub past_byte : (s : List ℕ) (at : ℕ) → length s ≤ at → byte_at s at ≡ 0
past_byte s at h = get_or-eq_default s 0 h

pub past_u16 : (s : List ℕ) (at : ℕ) → length s ≤ at → u16_at s at ≡ 0
past_u16 s at h = rw (past_byte s at h, past_byte s (at + 1) (omega arith))

pub past_u32 : (s : List ℕ) (at : ℕ) → length s ≤ at → u32_at s at ≡ 0
past_u32 s at h = omega (arith, past_u16 s at h, past_u16 s (at + 2) (omega arith))

-- ---- NaN

is_nan_lem : (x : Float) → is_nan x ≡ true → x ≡ nan
unfolding is_nan
is_nan_lem nan e = refl
is_nan_lem (inf s) e = absurd (false≢true e)
is_nan_lem (fin s m d) e = absurd (false≢true e)

no : (b : Bool) → b ≡ false → T (not b)
no true e = absurd (false≢true (sym e))
no false e = tt

-- a pattern above an infinity's, the sign left out, is a NaN's; any other is none
pub above_nan : (b : ℕ) → 0x7F80_0000 < b % 0x8000_0000 → of_bits binary32 b ≡ nan
above_nan b h = is_nan_lem (of_bits binary32 b) (sym (nan_bits_is binary32 b) ∙ nan_bits_above binary32 b ∙ lt-ltb _ _ h)

pub below_nan : (b : ℕ) → b % 0x8000_0000 ≤ 0x7F80_0000 → T (not (nan_bits binary32 b))
below_nan b h = no (nan_bits binary32 b) (nan_bits_above binary32 b ∙ le-ltb _ _ h)

-- ---- one place after another

module _ (test : ℕ → Bool) (step : ℕ) where
  -- the test fails at the first of n places
  pub all_stop : (at n : ℕ) → 0 < n → test at ≡ false → all_at test step at n ≡ false
  unfolding all_at
  all_stop at zero h e = absurd (omega arith)
  all_stop at (suc n) h e = rw e

  -- it holds there, and m places are left, from `next` on
  pub all_turn : (at n next m : ℕ) → n ≡ m + 1 → at + step ≡ next → test at ≡ true → all_at test step at n ≡ all_at test step next m
  unfolding all_at
  all_turn at n next m k p e = rw (k, add-one, e, p)

  pub all_done : (at n : ℕ) → n ≡ 0 → all_at test step at n ≡ true
  unfolding all_at
  all_done at n k = rw k

  -- where it holds at n places, it does at the one numbered i, from 0
  pub each : (at n i : ℕ) → all_at test step at n ≡ true → i < n → test (at + step * i) ≡ true
  unfolding all_at
  each at zero i e h = absurd (omega arith)
  each at (suc n) zero e h = simp (mul-zero, add-zero) (and_left (test at) (all_at test step (at + step) n) e)
  each at (suc n) (suc i) e h =
      let rest = each (at + step) n i (and_right (test at) (all_at test step (at + step) n) e) (omega arith) in
      let place : at + (step * i + step) ≡ at + step + step * i = omega arith in
      rw (mul-suc step i, place) rest
