-- A paint as it crosses to C: its kind, two colours and four floats, as in a sheet (document 01, "The sheet"). A kind over 3 is
-- refused by 5, which stands where it does for an item: after 13 and before 6. Assumes nothing.
use Rattle.std.specs.Prelude.{Bool, ◌&&◌, List, [], ◌∷◌, ℕ, leb, Float, length}
use Rattle.geom.specs.Plane.{pt_of}
use Rattle.geom.specs.declared.Rect.{Rect}
use Rattle.draw.specs.Draw.{drawn}
use Rattle.paints.specs.declared.Paint.{Paint}
use Rattle.paints.specs.declared.Paint.TheVariants.{Solid, VGrad, Linear, Radial}
use Rattle.paints.specs.Paints.{paint_ok}
use Rattle.gfx.specs.declared.Canvas.{Canvas}
use Rattle.gfx.specs.declared.Counted.{Counted}
use Rattle.gfx.specs.Calls.{unless, and_then, px_number, ShapeCalled}
use Rattle.gfx.specs.Points.{points_ok, coords_ok}
use Rattle.fill.specs.Fill.{fill_reach, fill_ink}
use Rattle.poly.specs.Poly.{poly_need}
use Rattle.sheet.specs.Bytes.{lookup}
use Rattle.maldjupp.specs.declared.brush.Brush.{Brush}

-- the paint of a brush; one that is not refused has a kind of 0 to 3
unfoldable pub paint_of : Brush → Paint
paint_of b =
    lookup b.kind
    ((0, Solid b.c0)
    ∷ (1, VGrad b.v0 b.v1 b.c0 b.c1)
    ∷ (2, Linear (pt_of b.v0 b.v1) (pt_of b.v2 b.v3) b.c0 b.c1)
    ∷ [])
    (Radial (pt_of b.v0 b.v1) b.v2 b.c0 b.c1)

abbrev pub kind_ok : Brush → Bool
kind_ok b = leb b.kind 3

-- ---- numbers

-- a fill on n lent words, by whether the floats given are finite and within 8,192 of 0: 12, 15, 8, 5, then 6
unfoldable pub brush_number : Canvas → ℕ → Brush → Bool → ℕ
brush_number c n b floats_ok = and_then (px_number c n) (unless (kind_ok b) 5 (unless floats_ok 6 0))

-- a polygon with so many words of scratch: 12, 15, 8, 13, 5, 6, then 9
unfoldable pub points_brush_number : Canvas → ℕ → List Float → Brush → ℕ → ℕ
points_brush_number c n pts b words =
    and_then (px_number c n)
    (unless (points_ok pts) 13
    (unless (kind_ok b) 5
    (unless (coords_ok pts && paint_ok (paint_of b)) 6
    (unless (leb (poly_need pts) words) 9 0))))

-- the two where the kind is over 3; the first is also that of a shadow whose `skip` is over 1 (Skips)
unfoldable pub five_number : Canvas → ℕ → ℕ
five_number c n = and_then (px_number c n) 5

unfoldable pub points_kind_number : Canvas → ℕ → List Float → ℕ
points_kind_number c n pts = and_then (px_number c n) (unless (points_ok pts) 13 5)

-- ---- the fills

-- what a fill with a brush promises: but for its number, what the fill with its paint does
abbrev pub Brushed : Canvas → Brush → Bool → Rect → Float → List ℕ → Counted → List ℕ → Type 0
Brushed canvas b ok rect r px =
    ShapeCalled (brush_number canvas (length px) b ok) canvas px
    (drawn canvas.pitch canvas.clip (fill_reach rect) (fill_ink rect r (paint_of b)) px)
