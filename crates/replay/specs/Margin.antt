-- WORDS OF A ROW PAST w ARE NEVER ALTERED BY ANY CALL (document 02, 2026-07): one statement over every call that is lent px, each
-- by its contract alone, for any state, numbers, bytes and lent words, and for refusals too. Proved in proofs/Margins.
use Rattle.std.specs.Prelude.{Bool, List, ◌≡◌, ℕ, ◌%◌, ◌≤◌, ◌<◌, ℤ, pos, Float, length, get_or}
use Rattle.geom.specs.declared.IRect.{IRect}
use Rattle.geom.specs.declared.Rect.{Rect}
use Rattle.geom.specs.Int.{up}
use Rattle.color.specs.declared.Color.{Color}
use Rattle.draw.specs.Draw.{drawn}
use Rattle.draw.specs.Frame.{framed}
use Rattle.gfx.specs.declared.Canvas.{Canvas}
use Rattle.gfx.specs.declared.Done.{Done}
use Rattle.gfx.specs.declared.Counted.{Counted}
use Rattle.gfx.specs.State.{fresh_of}
use Rattle.gfx.specs.Calls.{Called, CalledCounted, ShapeCalled, raised, new_number, resize_number, resized, resized_px, px_number}
use Rattle.gfx.specs.Calls.{cleared_to, shape_number}
use Rattle.gfx.specs.Points.{points_number}
use Rattle.paints.specs.declared.Paint.{Paint}
use Rattle.line.specs.Polylines.{polylined, polyline_steps}
use Rattle.poly.specs.Poly.{poly_number, Filled}
use Rattle.sheet.specs.Check.{width_of}
use Rattle.redraw.specs.declared.Reply.{Reply}
use Rattle.redraw.specs.Calls.{Painted, Patched}
use Rattle.items.specs.Format.{format, zero_word}
use Rattle.maldjupp.specs.declared.brush.Brush.{Brush}
use Rattle.maldjupp.specs.Brushes.{paint_of, Brushed, points_brush_number}
use Rattle.maldjupp.specs.Skips.{skip_number}

-- in rows of `pitch` words, px' is as long as px, and a word of a row past the first w is as it was
pub record Kept (pitch w : ℕ) (px px' : List ℕ) : Type 0 where
  pub long : length px' ≡ length px
  pub past : (i : ℕ) → i < length px → w ≤ i % pitch → get_or px' i 0 ≡ get_or px i 0

pub record Margin : Type 0 where
  -- `new`, of the width raised
  pub new : (w h : ℤ) (pitch : ℕ) (px : List ℕ) (r : Done) (px' : List ℕ)
      → Called (new_number w h pitch (length px)) (fresh_of (pos 0) (pos 0) 0) (fresh_of (raised w) (raised h) pitch) px
      (framed pitch (up (raised w)) 0 px) r px'
      → Kept pitch (up (raised w)) px px'
  -- `resize`, of the width wanted, raised
  pub resize : (c : Canvas) (w h : ℤ) (px : List ℕ) (r : Done) (px' : List ℕ)
      → Called (resize_number c w h (length px)) c (resized c w h) px (resized_px c w h px) r px'
      → Kept c.pitch (up (raised w)) px px'
  -- "`clear` included"
  pub clear : (c : Canvas) (v : ℕ) (px : List ℕ) (r : Done) (px' : List ℕ)
      → Called (px_number c (length px)) c c px (cleared_to c v px) r px'
      → Kept c.pitch (up c.w) px px'
  -- `fill_rrect`, `fill_rect`, `fill_circle`, `stroke_rrect`, `ring`, `line` and `shadow_rrect`: each is a reach and an ink, and
  -- a test of its floats
  pub shape : (c : Canvas) (ok : Bool) (reach : IRect) (ink : ℕ → ℕ → ℕ → ℕ) (px : List ℕ) (r : Counted) (px' : List ℕ)
      → ShapeCalled (shape_number c (length px) ok) c px (drawn c.pitch c.clip reach ink px) r px'
      → Kept c.pitch (up c.w) px px'
  pub polyline : (c : Canvas) (pts : List Float) (ok : Bool) (width : Float) (color : Color) (px : List ℕ) (r : Counted)
      (px' : List ℕ)
      → CalledCounted (points_number c (length px) pts ok) c px (polylined c.pitch c.clip pts width color px)
      (polyline_steps c.pitch c.clip pts width color px) r px'
      → Kept c.pitch (up c.w) px px'
  pub polygon : (c : Canvas) (pts : List Float) (paint : Paint) (px : List ℕ) (scratch : List Float) (r : Counted) (px' : List ℕ)
      (scratch' : List Float)
      → Filled (poly_number c (length px) pts paint (length scratch)) c px pts paint scratch r px' scratch'
      → Kept c.pitch (up c.w) px px'
  -- `fill_ground`, which painting and patching share
  pub grounding : (c : Canvas) (v : ℕ) (px : List ℕ) (r : Counted) (px' : List ℕ)
      → ShapeCalled (px_number c (length px)) c px (drawn c.pitch c.clip c.clip (λ _ _ _. v) px) r px'
      → Kept c.pitch (up c.w) px px'
  -- the calls of C and Rust whose paint comes as a brush: `maldjupp_fill_rrect`, `maldjupp_fill_rect`, `maldjupp_fill_circle`;
  -- `maldjupp_fill_poly`
  pub brush : (c : Canvas) (b : Brush) (ok : Bool) (rect : Rect) (radius : Float) (px : List ℕ) (r : Counted) (px' : List ℕ)
      → Brushed c b ok rect radius px r px'
      → Kept c.pitch (up c.w) px px'
  pub brush_polygon : (c : Canvas) (pts : List Float) (b : Brush) (px : List ℕ) (scratch : List Float) (r : Counted) (px' : List ℕ)
      (scratch' : List Float)
      → Filled (points_brush_number c (length px) pts b (length scratch)) c px pts (paint_of b) scratch r px' scratch'
      → Kept c.pitch (up c.w) px px'
  -- `maldjupp_shadow_rrect`, whose `skip_inside` comes as a number
  pub shadow : (c : Canvas) (skip : ℕ) (ok : Bool) (reach : IRect) (ink : ℕ → ℕ → ℕ → ℕ) (px : List ℕ) (r : Counted)
      (px' : List ℕ)
      → ShapeCalled (skip_number c (length px) skip ok) c px (drawn c.pitch c.clip reach ink px) r px'
      → Kept c.pitch (up c.w) px px'
  -- painting and patching, of the width in the header of the sheet painted, or of the new one
  pub painting : (sheet : List ℕ) (pitch : ℕ) (px : List ℕ) (scratch : List Float) (a : Reply) (px' : List ℕ)
      (scratch' : List Float)
      → Painted zero_word format sheet pitch px scratch a px' scratch'
      → Kept pitch (width_of sheet) px px'
  pub patching : (old new : List ℕ) (pitch : ℕ) (px : List ℕ) (scratch : List Float) (a : Reply) (px' : List ℕ)
      (scratch' : List Float)
      → Patched zero_word format old new pitch px scratch a px' scratch'
      → Kept pitch (width_of new) px px'
