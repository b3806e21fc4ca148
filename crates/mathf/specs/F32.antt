-- f32 arithmetic in short: each operator is one operation of IEEE 754's binary32, rounded once, to nearest, ties to even.
-- A literal is named by its bit pattern, as the compiled code has it. Every formula of every crate is written with these. Assumes
-- nothing.
use Rattle.std.specs.Prelude.{ℕ, Bool, ℤ, pos, from_bits, Float}
use Rattle.std.specs.Float.{binary32}
use Rattle.std.specs.Float.Ieee.{of_int, add, sub, mul, div, rem, neg, lt, le}

infixl 6 ◌+ᶠ◌ ◌-ᶠ◌
infixl 7 ◌*ᶠ◌ ◌/ᶠ◌ ◌%ᶠ◌
abbrev pub ◌+ᶠ◌ : Float → Float → Float
x +ᶠ y = add binary32 x y

abbrev pub ◌-ᶠ◌ : Float → Float → Float
x -ᶠ y = sub binary32 x y

abbrev pub ◌*ᶠ◌ : Float → Float → Float
x *ᶠ y = mul binary32 x y

abbrev pub ◌/ᶠ◌ : Float → Float → Float
x /ᶠ y = div binary32 x y

abbrev pub ◌%ᶠ◌ : Float → Float → Float
x %ᶠ y = rem binary32 x y

-- comparisons: false where one is a NaN
infix 4 ◌<ᶠ◌ ◌≤ᶠ◌
abbrev pub ◌<ᶠ◌ : Float → Float → Bool
x <ᶠ y = lt x y

abbrev pub ◌≤ᶠ◌ : Float → Float → Bool
x ≤ᶠ y = le x y

-- `z as f32` of an integer
abbrev pub of_zᶠ : ℤ → Float
of_zᶠ z = of_int binary32 z

abbrev pub of_ℕᶠ : ℕ → Float
of_ℕᶠ n = of_zᶠ (pos n)

-- 0, 0.5, 1, 1.5, 2, 3, 255, 256
abbrev pub f0 : Float
f0 = from_bits binary32 0

abbrev pub f½ : Float
f½ = from_bits binary32 0x3f00_0000

abbrev pub f1 : Float
f1 = from_bits binary32 0x3f80_0000

abbrev pub f1½ : Float
f1½ = from_bits binary32 0x3fc0_0000

abbrev pub f2 : Float
f2 = from_bits binary32 0x4000_0000

abbrev pub f3 : Float
f3 = from_bits binary32 0x4040_0000

abbrev pub f255 : Float
f255 = from_bits binary32 0x437f_0000

abbrev pub f256 : Float
f256 = from_bits binary32 0x4380_0000

-- 60, 96, 360
abbrev pub f60 : Float
f60 = from_bits binary32 0x4270_0000

abbrev pub f96 : Float
f96 = from_bits binary32 0x42c0_0000

abbrev pub f360 : Float
f360 = from_bits binary32 0x43b4_0000

-- 8,192 either way: the limit of a float that is given to a shape or clip call
abbrev pub limit : Float
limit = from_bits binary32 0x4600_0000

abbrev pub -limit : Float
-limit = neg limit

-- 0.001 and 0.0001, as f32
abbrev pub f1e_3 : Float
f1e_3 = from_bits binary32 0x3a83_126f

abbrev pub f1e_4 : Float
f1e_4 = from_bits binary32 0x38d1_b717
