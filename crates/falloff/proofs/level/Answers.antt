-- `falloff::level` meets its contract. Assumes nothing.
use Rattle.mathf.proofs.Patterns.{from_no_nan}
use Rattle.falloff.proofs.level.Goals as goal

pub float_from_bits-bits : goal.float_from_bits-bits
float_from_bits-bits c = from_no_nan _ c.requires
