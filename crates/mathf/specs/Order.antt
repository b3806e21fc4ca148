-- Choosing between floats. `cond t x y` is x where the test t passes. Assumes nothing.
use Rattle.std.specs.Prelude.{cond, Float}
use Rattle.std.specs.Float.Ieee.{lt, ne, neg}
use Rattle.mathf.specs.F32.{f0, f1}

-- the other where one is a NaN, since a comparison with a NaN is false and only a NaN differs from itself; the first where
-- neither is smaller
abbrev pub min_of : Float → Float → Float
min_of a b = cond (lt b a) b (cond (ne a a) b a)

abbrev pub max_of : Float → Float → Float
max_of a b = cond (lt a b) b (cond (ne a a) b a)

abbrev pub fabs_of : Float → Float
fabs_of x = cond (lt x f0) (neg x) x

-- a NaN comes back as it is
abbrev pub clamp_of : Float → Float → Float → Float
clamp_of x lo hi = cond (lt x lo) lo (cond (lt hi x) hi x)

abbrev pub saturate_of : Float → Float
saturate_of x = clamp_of x f0 f1
