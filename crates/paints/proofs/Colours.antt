-- The paint as the points of a row have it gives the paint's colours there. Assumes nothing.
use mathlib.Core.Path.{◌≡◌, refl}
use lib.Ieee.{Float}
use Rattle.paints.specs.declared.Paint.{Paint}
use Rattle.paints.specs.declared.Paint.TheVariants.{Solid, VGrad, Linear, Radial}
use Rattle.paints.specs.Paints.{paint_at, row_paint}

pub row_colour : (p : Paint) (x y : Float) → paint_at (row_paint p y) x y ≡ paint_at p x y
unfolding paint_at row_paint
row_colour (Solid c) x y = refl
row_colour (VGrad y0 y1 c0 c1) x y = refl
row_colour (Linear p0 p1 c0 c1) x y = refl
row_colour (Radial c r c0 c1) x y = refl
