-- `gfx::Canvas::try_get` meets its contract. Assumes nothing.
use mathlib.Core.Path.{◌≡◌, sym}
use native.Mathlib.Omega.{arith}
use Rattle.std.proofs.Common.{rules, ◌+◌, ◌*◌, ◌<◌, length}
use Rattle.geom.proofs.Signed.{Kept, kept}
use Rattle.gfx.proofs.Sizes.{open_of, pixel_in_lem}
use Rattle.gfx.proofs.Answers.{stopped_pixel}
use Rattle.gfx.specs.Calls.{nearest_in, pixel_at, pixel_answer}
use Rattle.gfx.proofs.Canvas.try_get.Goals.{After-nearest_in-2}
use Rattle.gfx.proofs.Canvas.try_get.Goals as goal

row : (c : After-nearest_in-2) → c.nearest_in.result ≡ nearest_in c.args.self.h c.args.y
row c = let h : Kept c.args.self.h = search rules in rw (h, kept c.args.y c.ranges.y.sfits) at c.nearest_in.ensures

column : (c : After-nearest_in-2) → c.nearest_in-2.result ≡ nearest_in c.args.self.w c.args.x
column c = let w : Kept c.args.self.w = search rules in rw (w, kept c.args.x c.ranges.x.sfits) at c.nearest_in-2.ensures

-- the index, as the definition has it, is below the length of px
within : (c : After-nearest_in-2) → c.nearest_in.result * c.args.self.pitch + c.nearest_in-2.result < length c.args.px.now
within c = rw (row c, column c) (pixel_in_lem c.args.self _ c.args.x c.args.y (open_of _ _ (sym c.in_ok-check_px.ensures)))

pub returns-in_err-check_px : goal.returns-in_err-check_px
returns-in_err-check_px c = stopped_pixel _ c.in_err-check_px.ensures _ _ c.from_residual.ensures.1

pub overflow_mul-at : goal.overflow_mul-at
overflow_mul-at c =
    let h : Kept c.args.self.h = search rules in
    let low = pixel_in_lem c.args.self _ c.args.x c.args.y (open_of _ _ (sym c.in_ok-check_px.ensures)) in
    rw (rw (h, kept c.args.y c.ranges.y.sfits) at c.nearest_in.ensures) (record { fits = omega (arith, low, c.well_formed) })

pub overflow_add-at : goal.overflow_add-at
overflow_add-at c = record { fits = omega (arith, within c, c.well_formed) }

pub offset_bounds-px-at : goal.offset_bounds-px-at
offset_bounds-px-at c = record { fits = omega (arith, within c, c.well_formed) }

pub bounds-px-at : goal.bounds-px-at
bounds-px-at c = within (goal.at.bounds-px-at c).After-nearest_in-2

pub returns : goal.returns
unfolding pixel_at pixel_answer
returns c =
    let d = (goal.at.returns c).After-nearest_in-2 in
    rw (← row d, ← column d, ← c.in_ok-check_px.ensures)
