-- `draw::check_frame` meets its contract. Assumes nothing.
use mathlib.Core.Path.{sym}
use native.Mathlib.Nat.{mul-le-mul}
use native.Mathlib.Omega.{arith}
use Rattle.draw.proofs.Frame.{pitch_of}
use Rattle.draw.proofs.check_frame.Goals as goal

pub overflow_mul-pitch : goal.overflow_mul-pitch
overflow_mul-pitch c =
    record { fits = omega (arith, mul-le-mul (pitch_of c.args.w c.args.pitch (sym c.in_ok-check_pitch.ensures)).most c.requires) }
