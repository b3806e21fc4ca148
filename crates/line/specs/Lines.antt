-- `Canvas::line` of gfx.rs: a segment with round ends, by each pixel's distance to it. Each f32 operation is rounded once, in the
-- order written.
use Rattle.std.specs.Prelude.{Bool, false, ◌&&◌, ℕ, Float}
use Rattle.std.specs.Float.{nan, inf, fin}
use Rattle.mathf.specs.F32.{◌+ᶠ◌, ◌-ᶠ◌, ◌*ᶠ◌, ◌/ᶠ◌, f½, f1, f2, f1e_4}
use Rattle.mathf.specs.Order.{min_of, max_of, saturate_of}
use Rattle.mathf.specs.Root.{sqrt_of}
use Rattle.geom.specs.declared.Pt.{Pt}
use Rattle.geom.specs.declared.IRect.{IRect}
use Rattle.geom.specs.Plane.{rect_of, outer_of, float_ok, pt_ok}
use Rattle.color.specs.declared.Color.{Color}
use Rattle.color.specs.Inks.{over_c}
use Rattle.paints.specs.Paints.{centre_of, cov8_of}
use Rattle.line.specs.declared.Segment.{Segment}

-- `.abs()`, which clears the sign
unfoldable pub abs_of : Float → Float
abs_of nan = nan
abs_of (inf s) = inf false
abs_of (fin s m e) = fin false m e

-- the box before the clip: `from_rect_outer` of the padded rectangle
unfoldable pub line_reach : Pt → Pt → Float → IRect
line_reach a b width =
    let pad = width *ᶠ f½ +ᶠ f1 in
    outer_of
    (rect_of
    (min_of a.x b.x -ᶠ pad)
    (min_of a.y b.y -ᶠ pad)
    (abs_of (a.x -ᶠ b.x) +ᶠ f2 *ᶠ pad)
    (abs_of (a.y -ᶠ b.y) +ᶠ f2 *ᶠ pad))

-- what the pixels of a line share
unfoldable pub segment_of : Pt → Pt → Float → Segment
segment_of a b width =
    let dx = b.x -ᶠ a.x in
    let dy = b.y -ᶠ a.y in
    record { a = a; dx = dx; dy = dy; len2 = max_of (dx *ᶠ dx +ᶠ dy *ᶠ dy) f1e_4; hw = width *ᶠ f½ }

-- the coverage of a pixel by its centre
unfoldable pub cover_of : Segment → Float → Float → ℕ
cover_of s xc yc =
    let t = saturate_of (((xc -ᶠ s.a.x) *ᶠ s.dx +ᶠ (yc -ᶠ s.a.y) *ᶠ s.dy) /ᶠ s.len2) in
    let px = s.a.x +ᶠ s.dx *ᶠ t -ᶠ xc in
    let py = s.a.y +ᶠ s.dy *ᶠ t -ᶠ yc in
    let d = sqrt_of (px *ᶠ px +ᶠ py *ᶠ py) -ᶠ s.hw in
    cov8_of d

-- the new value of a pixel
unfoldable pub segment_ink : Segment → Color → ℕ → ℕ → ℕ → ℕ
segment_ink s c x y p = over_c p c (cover_of s (centre_of x) (centre_of y))

abbrev pub line_ink : Pt → Pt → Float → Color → ℕ → ℕ → ℕ → ℕ
line_ink a b width c = segment_ink (segment_of a b width) c

-- the floats given are finite and within 8,192 of 0
unfoldable pub line_ok : Pt → Pt → Float → Bool
line_ok a b width = pt_ok a && pt_ok b && float_ok width
