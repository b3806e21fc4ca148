-- `gfx::Canvas::blank` meets its contract. Assumes nothing.
use mathlib.Core.Path.{◌≡◌, ap, ◌∙◌}
use lib.IntN.{ℤ}
use mir.Syntax.{w32}
use Prim.Native.Nat.{◌<◌}
use lib.Signed.{mag}
use mir.Val.{to_z, of_z}
use Rattle.geom.specs.Int.{up}
use Rattle.geom.proofs.Signed.{kept}
use Rattle.gfx.proofs.Sizes.{size_open}
use Rattle.gfx.proofs.Fits.{rows_fit}
use Rattle.gfx.specs.Calls.{raised}
use Rattle.gfx.proofs.Canvas.blank.Goals.{After-nat_of, After-nat_of-2}
use Rattle.gfx.proofs.Canvas.blank.Goals as goal

-- a side that was raised, of a side given as its number's bits
raised_side : (w r : ℤ) → mag w < 2147483648 → r ≡ raised (to_z w32 (of_z w32 w)) → r ≡ raised w
raised_side w r fits e = e ∙ ap (λ (z : ℤ). raised z) (kept w fits)

columns : (c : After-nat_of) → c.nat_of.result ≡ up (raised c.args.w)
columns c =
    simp (kept c.raise-a.result c.raise-a.type_inv) at c.nat_of.ensures
    ∙ ap up (raised_side c.args.w c.raise-a.result c.ranges.w.sfits c.raise-a.ensures)

rows : (c : After-nat_of-2) → c.nat_of-2.result ≡ up (raised c.args.h)
rows c =
    simp (kept c.raise-b.result c.raise-b.type_inv) at c.nat_of-2.ensures
    ∙ ap up (raised_side c.args.h c.raise-b.result c.ranges.h.sfits c.raise-b.ensures)

pub store_rows-requires : goal.store_rows-requires
store_rows-requires c =
    let z = size_open _ (raised c.args.w) (raised c.args.h) c.args.pitch _ c.requires in
    rw (columns (goal.at.store_rows-requires c).After-nat_of, rows c) (rows_fit (raised c.args.w) (raised c.args.h) c.args.pitch _ z.side_w z.side_h z.frame)

pub returns : goal.returns
returns c =
    let e = simp (kept c.raise-a.result c.raise-a.type_inv, kept c.raise-b.result c.raise-b.type_inv) at c.fresh.ensures in
    let wide = raised_side c.args.w c.raise-a.result c.ranges.w.sfits c.raise-a.ensures in
    let tall = raised_side c.args.h c.raise-b.result c.ranges.h.sfits c.raise-b.ensures in
    (e ∙ simp (wide, tall), c.store_rows.ensures ∙ simp (columns (goal.at.returns c).After-nat_of))
