-- `Area::draw` meets its contract. The rows before y are drawn. Assumes nothing.
use native.Mathlib.Omega.{arith}
use Rattle.draw.proofs.Loops.{InRows, rows_start, row_fits, rows_next, rows_end}
use Rattle.draw.proofs.Area.draw.Goals.{After-slice_known-in-loop-y-1}
use Rattle.draw.proofs.Area.draw.Goals as goal

-- the rows before y, by the pixel function of the `requires`
before : (g : _) (c : After-slice_known-in-loop-y-1 g) → let a = c.args in
    InRows a.pitch c.requires.draws.0 a.self.x0 a.self.x1 a.self.y0 a.self.y1 a.px.now c.loop-y.px c.loop-y.n c.loop-y.y
before g c = c.loop-y.invariant.1 _ c.requires.draws.1

pub loop-y-init : goal.loop-y-init
loop-y-init g c = (omega arith, λ f a. rows_start _ f _ _ _ _ _ c.requires.area_fits.down)

pub row-n-requires : goal.row-n-requires
row-n-requires g c =
    c.requires.callable _ _ c.loop-y.invariant.0 c.loop-y-test.true
    (row_fits c.requires.area_fits (c.loop-y.invariant.1 _ c.requires.draws.1) c.loop-y-test.true)

pub overflow_add-n : goal.overflow_add-n
overflow_add-n g c =
    let w = c.requires.area_fits in
    let fits = row_fits w (before g c) c.loop-y-test.true in
    let d = c.requires.draws.1 _ _ _ _ c.loop-y.invariant.0 c.loop-y-test.true fits c.row-n.ensures in
    record { fits = omega (arith, d.few, (before g c).few, w.wide, w.high) }

pub loop-y-preserved : goal.loop-y-preserved
loop-y-preserved g c = (
  omega arith,
  λ f a. rows_next c.requires.area_fits.wide (c.loop-y.invariant.1 f a) c.loop-y-test.true
      (a _ _ _ _ c.loop-y.invariant.0 c.loop-y-test.true (row_fits c.requires.area_fits (before g c) c.loop-y-test.true) c.row-n.ensures),
)

pub returns : goal.returns
returns g c = λ f a. rows_end c.requires.area_fits.high (c.loop-y.invariant.1 f a) c.loop-y-test.false
