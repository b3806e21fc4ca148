-- The claims of specs/Trust.antt hold. Assumes nothing.
use Rattle.std.proofs.Common.{◌≡◌, zero, suc, Bool, true, false, T, pos, sym, refl}
use lib.Ieee.{Float, nan, inf, fin, binary32, fits, of_bits, round}
use lib.Ieee.Fits.{nan-fits, round-fits}
use Rattle.mathf.specs.Root.{root_units, sqrt_of}
use Rattle.mathf.specs.Whole.{floor_of, ceil_of}
use Rattle.mathf.specs.Trust.{IsRoot, NextWhole}
use Rattle.mathf.proofs.Patterns.{no_root}
use Rattle.mathf.proofs.Nearest.{no_nearer}
use Rattle.mathf.proofs.NextWhole.{floor_last, ceil_last}

root_fits : (x : Float) → T (fits binary32 x) → T (fits binary32 (sqrt_of x))
unfolding sqrt_of root_units
root_fits nan t = t
root_fits (inf true) t = nan-fits binary32
root_fits (inf false) t = t
root_fits (fin s zero e) t = t
root_fits (fin false (suc m) e) t = round-fits binary32 false _ _
root_fits (fin true (suc m) e) t = nan-fits binary32

pub is_root : IsRoot
unfolding sqrt_of of_bits
is_root = record {
  fit = root_fits;
  no_nearer = no_nearer;
  of_zero = λ s. refl;
  of_negative = λ x h. sym (no_root x h);
  of_infinity = refl;
  of_nan = refl;
}

-- whatever is cut or taken up, the result is rounded to an f32; what has no number comes back
floor_fits : (x : Float) → T (fits binary32 x) → T (fits binary32 (floor_of x))
unfolding floor_of
floor_fits nan t = t
floor_fits (inf s) t = t
floor_fits (fin false m e) t = round-fits binary32 false _ _
floor_fits (fin true m e) t = round-fits binary32 true _ _

ceil_fits : (x : Float) → T (fits binary32 x) → T (fits binary32 (ceil_of x))
unfolding ceil_of
ceil_fits nan t = t
ceil_fits (inf s) t = t
ceil_fits (fin false m e) t = round-fits binary32 false _ _
ceil_fits (fin true m e) t = round-fits binary32 true _ _

floor_zero : (s : Bool) → floor_of (fin s 0 (pos 0)) ≡ fin s 0 (pos 0)
unfolding floor_of round
floor_zero true = refl
floor_zero false = refl

ceil_zero : (s : Bool) → ceil_of (fin s 0 (pos 0)) ≡ fin s 0 (pos 0)
unfolding ceil_of round
ceil_zero true = refl
ceil_zero false = refl

pub next_whole : NextWhole
unfolding floor_of ceil_of
next_whole = record {
  floor = record { fit = floor_fits; next = floor_last; of_zero = floor_zero; of_infinity = λ s. refl; of_nan = refl };
  ceil = record { fit = ceil_fits; next = ceil_last; of_zero = ceil_zero; of_infinity = λ s. refl; of_nan = refl };
}
