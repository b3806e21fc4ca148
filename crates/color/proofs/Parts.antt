-- Two channels a multiply: a mix of 256 parts takes 16 binary places, so two channels 16 places apart do not meet. Assumes nothing.
use mathlib.Core.Path.{◌≡◌}
use Prim.Native.Nat.{ℕ, ◌+◌, ◌-◌, ◌*◌, ◌≤◌, ◌<◌}
use native.Mathlib.Nat.{add-mul, mul_right_comm}
use native.Mathlib.Omega.{arith}
use Rattle.color.proofs.Weights.{weighted_le}
use Rattle.color.specs.Inks.{red, green, blue, packed}
use Rattle.color.specs.Colours.{mixed256}

-- red and blue of one pixel, r and b, and of another, s and d
spread : (r b s d it t : ℕ) → (r * 65536 + b) * it + (s * 65536 + d) * t ≡ (r * it + s * t) * 65536 + (b * it + d * t)
spread r b s d it t =
    omega
    (arith, add-mul (r * 65536) b it, add-mul (s * 65536) d t, mul_right_comm r 65536 it, mul_right_comm s 65536 t)

module _ (a b t : ℕ) (h : t ≤ 256) where
  channels_le : (x y : ℕ) → x ≤ 255 → y ≤ 255 → x * (256 - t) + y * t ≤ 65280
  channels_le x y = weighted_le 256 255 x y (256 - t) t (omega arith)

  reds : red a * (256 - t) + red b * t ≤ 65280
  reds = channels_le (red a) (red b) (omega arith) (omega arith)

  greens : green a * (256 - t) + green b * t ≤ 65280
  greens = channels_le (green a) (green b) (omega arith) (omega arith)

  blues : blue a * (256 - t) + blue b * t ≤ 65280
  blues = channels_le (blue a) (blue b) (omega arith) (omega arith)

  -- the top byte is 0
  pub mixed_fits : packed (mixed256 (red a) (red b) t) (mixed256 (green a) (green b) t) (mixed256 (blue a) (blue b) t) < 16777216
  mixed_fits = omega (arith, reds, greens, blues)

  pub red_blue_mixed :
      let n = mixed256 (red a * 65536 + blue a) (red b * 65536 + blue b) t in
      red n * 65536 + blue n ≡ mixed256 (red a) (red b) t * 65536 + mixed256 (blue a) (blue b) t
  red_blue_mixed = omega (arith, spread (red a) (blue a) (red b) (blue b) (256 - t) t, reds, blues)

  green_spread : mixed256 (green a * 256) (green b * 256) t ≡ green a * (256 - t) + green b * t
  green_spread = omega (arith, mul_right_comm (green a) 256 (256 - t), mul_right_comm (green b) 256 t)

  pub green_mixed : green (mixed256 (green a * 256) (green b * 256) t) * 256 ≡ mixed256 (green a) (green b) t * 256
  green_mixed = rw green_spread (omega (arith, greens))
