-- A float to an integer, as Rust's `as`: cut towards zero; past the type's ends the nearest end; 0 for a NaN. A signed type has
-- one bit less beside its sign. Assumes nothing.
use Rattle.std.specs.Prelude.{ℕ, ℤ, Float}
use Rattle.std.specs.Float.Ieee.{to_unsigned, to_signed}

abbrev pub to_u8 : Float → ℕ
to_u8 x = to_unsigned 8 x

abbrev pub to_u32 : Float → ℕ
to_u32 x = to_unsigned 32 x

abbrev pub to_usize : Float → ℕ
to_usize x = to_unsigned 64 x

abbrev pub to_i32 : Float → ℤ
to_i32 x = to_signed 31 x
