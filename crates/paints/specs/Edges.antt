-- A round edge as loops keep it: its distance, and two squared distances at which its coverage is known without a root. No call
-- of the library cites this file; what the crates share, `Edge::of`, `Edge::cover` and `Edge::beside`, is said by it. That no
-- pixel turns on it is a law: of the edge of any radius, `edge_cover` and `beside_of` are the coverage with the root
-- (proofs/Covers, `edge_cover_lem` and `edge_beside`).
use Rattle.std.specs.Prelude.{cond, ◌&&◌, ℕ, Float}
use Rattle.std.specs.Float.{binary32}
use Rattle.std.specs.Float.Ieee.{of_bits, neg}
use Rattle.mathf.specs.F32.{◌+ᶠ◌, ◌-ᶠ◌, ◌*ᶠ◌, ◌/ᶠ◌, ◌<ᶠ◌, ◌≤ᶠ◌, f0, f½}
use Rattle.mathf.specs.Order.{max_of}
use Rattle.mathf.specs.Root.{sqrt_of}
use Rattle.paints.specs.declared.edges.Edge.{Edge}
use Rattle.paints.specs.Paints.{cov8_of}

-- 0.51: a little over half a pixel
abbrev pub f0·51 : Float
f0·51 = of_bits binary32 0x3f02_8f5c

-- the square of the distance r with so much added, where it is tested to lie half a pixel outside; else a NaN, from which on
-- nothing lies
unfoldable pub far_of : Float → Float
far_of r =
    let e = r +ᶠ f0·51 in
    cond (f½ ≤ᶠ sqrt_of (e *ᶠ e) -ᶠ r) (e *ᶠ e) (f0 /ᶠ f0)

-- with so much taken off, where it is tested to lie half a pixel inside
unfoldable pub near_of : Float → Float
near_of r =
    let e = max_of (r -ᶠ f0·51) f0 in
    cond (sqrt_of (e *ᶠ e) -ᶠ r ≤ᶠ neg f½) (e *ᶠ e) (f0 /ᶠ f0)

abbrev pub edge_of : Float → Edge
edge_of r = record { r = r; far = far_of r; near = near_of r }

-- the coverage of a point that lies dx across and dy down from the edge's centre: nothing from `far` on, all up to `near`
unfoldable pub edge_cover : Edge → Float → Float → ℕ
edge_cover e dx dy =
    let d = dx *ᶠ dx +ᶠ dy *ᶠ dy in
    cond (e.far ≤ᶠ d) 0 (cond (d ≤ᶠ e.near) 255 (cov8_of (sqrt_of d -ᶠ e.r)))

-- the coverage by a rounded rectangle whose corners have the edge, from how far a point is past the straight parts of the sides;
-- `level` is that of its row beside the corners
unfoldable pub beside_of : Edge → Float → Float → ℕ → ℕ
beside_of e qx qy level =
    cond ((f0 <ᶠ qx) && (f0 <ᶠ qy)) (edge_cover e qx qy) (cond (qy <ᶠ qx) (cov8_of (qx -ᶠ e.r)) level)
