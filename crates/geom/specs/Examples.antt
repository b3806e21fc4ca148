-- The paper's example of boxes, and the box around a rectangle, over the definitions: each side computes. Assumes nothing.
use Rattle.std.specs.Prelude.{◌≡◌, refl, pos}
use Rattle.std.specs.Float.Ieee.{of_bits, round, add, to_signed}
use Rattle.mathf.specs.F32.{f0, f½, f1}
use Rattle.mathf.specs.Whole.{floor_of, ceil_of}
use Rattle.geom.specs.Int.{max_z, min_z}
use Rattle.geom.specs.Box.{box_of, meet}
use Rattle.geom.specs.Plane.{rect_of, outer_of}

-- (0,0,4,4) with (6,1,9,3) is (6,1,6,3)
pub apart :
    meet (box_of (pos 0) (pos 0) (pos 4) (pos 4)) (box_of (pos 6) (pos 1) (pos 9) (pos 3)) ≡ box_of (pos 6) (pos 1) (pos 6) (pos 3)
unfolding meet max_z min_z
apart = refl

-- (0.5, 0, 1, 1) touches two pixels
pub touched : outer_of (rect_of f½ f0 f1 f1) ≡ box_of (pos 0) (pos 0) (pos 2) (pos 1)
unfolding outer_of floor_of ceil_of to_signed of_bits round add
touched = refl
