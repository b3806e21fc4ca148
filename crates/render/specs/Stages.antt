-- What the code that draws items does, item by item, for any bytes at all: the canvas calls that it makes, and what they leave.
-- Its laws (proofs/Drawing) say that for the items of an accepted sheet this is redraw's `items_on`. No call of the library cites
-- this file: `render`, which painting and patching share, does. Assumes nothing.
use Rattle.std.specs.Prelude.{ℕ, zero, suc, ◌+◌, Bool, cond, List, ◌≡◌, leb, eqb, Float, length}
use Rattle.geom.specs.Plane.{float_ok}
use Rattle.geom.specs.declared.IRect.{IRect}
use Rattle.color.specs.declared.Color.{Color}
use Rattle.draw.specs.Draw.{drawn, differ}
use Rattle.gfx.specs.Calls.{left, shape_number}
use Rattle.gfx.specs.Points.{points_number}
use Rattle.gfx.specs.declared.Canvas.{Canvas}
use Rattle.paints.specs.declared.Paint.{Paint}
use Rattle.fill.specs.Fill.{fill_reach, fill_ink, rrect_floats}
use Rattle.stroke.specs.Stroke.{stroke_reach, stroke_ink, stroke_ok}
use Rattle.line.specs.Lines.{line_reach, line_ink, line_ok}
use Rattle.line.specs.Polylines.{polylined, polyline_steps}
use Rattle.poly.specs.Poly.{poly_number, poly_reach, poly_ink, poly_need, cleared}
use Rattle.shadow.specs.Shadow.{shadow_reach, shadow_ink, shadow_ok}
use Rattle.sheet.specs.Check.{bytes_at}
use Rattle.items.specs.Items.{item_of, points_of, joints_of}
use Rattle.items.specs.declared.Item.{Item}
use Rattle.items.specs.declared.Item.TheVariants.{Push, Pop, Fill, Stroke, Line, Poly, Shadow, Chain, Unknown}
use Rattle.clips.specs.States.{state_after}

-- px after a shape call, by whether its floats are in range
abbrev pub called : Canvas → Bool → IRect → (ℕ → ℕ → ℕ → ℕ) → List ℕ → List ℕ
called c ok reach ink px = left (shape_number c (length px) ok) px (drawn c.pitch c.clip reach ink px)

-- px and scratch after the call for a polygon of so many points: none is made for more than 64
unfoldable pub poly_px : List ℕ → ℕ → Paint → Canvas → List ℕ → ℕ → List ℕ
poly_px b count paint c px words =
    let pts = points_of b count in
    cond (leb count 64) (left (poly_number c (length px) pts paint words) px
    (drawn c.pitch c.clip (poly_reach pts) (poly_ink pts paint) px)) px

unfoldable pub poly_scratch : List ℕ → ℕ → Paint → Canvas → ℕ → List Float → List Float
poly_scratch b count paint c n scratch =
    let pts = points_of b count in
    cond (leb count 64) (cond (eqb (poly_number c n pts paint (length scratch)) 0) (cleared (poly_need pts) scratch) scratch)
    scratch

-- px after the call for a chain of so many points: none is made for more than 64
unfoldable pub chain_px : List ℕ → ℕ → Float → Color → Canvas → List ℕ → List ℕ
chain_px b count width color c px =
    let pts = joints_of b count in
    cond (leb count 64) (left (points_number c (length px) pts (float_ok width)) px
    (polylined c.pitch c.clip pts width color px)) px

-- the steps of that call that alter a pixel's value
unfoldable pub chain_steps : List ℕ → ℕ → Float → Color → Canvas → List ℕ → ℕ
chain_steps b count width color c px =
    let pts = joints_of b count in
    cond (leb count 64) (cond (eqb (points_number c (length px) pts (float_ok width)) 0)
    (polyline_steps c.pitch c.clip pts width color px) 0) 0

-- px after an item, where so many scratch words are lent
unfoldable pub shape_px : List ℕ → Item → Canvas → List ℕ → ℕ → List ℕ
shape_px b (Push rect) c px words = px
shape_px b Pop c px words = px
shape_px b (Fill rect r paint) c px words = called c (rrect_floats rect r paint) (fill_reach rect) (fill_ink rect r paint) px
shape_px b (Stroke rect r width color) c px words = called c (stroke_ok rect r width) (stroke_reach rect color)
    (stroke_ink rect r width color) px
shape_px b (Line a e width color) c px words = called c (line_ok a e width) (line_reach a e width) (line_ink a e width color) px
shape_px b (Poly paint count) c px words = poly_px b count paint c px words
shape_px b (Shadow rect r blur color skip) c px words =
    called c (shadow_ok rect r blur) (shadow_reach rect blur color) (shadow_ink rect r blur color skip) px
shape_px b (Chain width color count) c px words = chain_px b count width color c px
shape_px b Unknown c px words = px

-- the steps of an item that alter a pixel's value: the places at which px before and after it differ, of a chain those of its
-- lines
unfoldable pub shape_steps : List ℕ → Item → Canvas → List ℕ → ℕ → ℕ
shape_steps b (Push rect) c px words = 0
shape_steps b Pop c px words = 0
shape_steps b (Fill rect r paint) c px words = differ px (shape_px b (Fill rect r paint) c px words)
shape_steps b (Stroke rect r width color) c px words = differ px (shape_px b (Stroke rect r width color) c px words)
shape_steps b (Line a e width color) c px words = differ px (shape_px b (Line a e width color) c px words)
shape_steps b (Poly paint count) c px words = differ px (poly_px b count paint c px words)
shape_steps b (Shadow rect r blur color skip) c px words = differ px (shape_px b (Shadow rect r blur color skip) c px words)
shape_steps b (Chain width color count) c px words = chain_steps b count width color c px
shape_steps b Unknown c px words = 0

-- scratch after an item, where n words of px are lent
unfoldable pub shape_scratch : List ℕ → Item → Canvas → ℕ → List Float → List Float
shape_scratch b (Push rect) c n scratch = scratch
shape_scratch b Pop c n scratch = scratch
shape_scratch b (Fill rect r paint) c n scratch = scratch
shape_scratch b (Stroke rect r width color) c n scratch = scratch
shape_scratch b (Line a e width color) c n scratch = scratch
shape_scratch b (Poly paint count) c n scratch = poly_scratch b count paint c n scratch
shape_scratch b (Shadow rect r blur color skip) c n scratch = scratch
shape_scratch b (Chain width color count) c n scratch = scratch
shape_scratch b Unknown c n scratch = scratch

-- what is left in px and in scratch, and the steps that altered a pixel's value
pub record Left (px : List ℕ) (scratch : List Float) (steps : ℕ) (px' : List ℕ) (scratch' : List Float) (n : ℕ) : Type 0 where
  pub paints : px' ≡ px
  pub clears : scratch' ≡ scratch
  pub counts : n ≡ steps

-- state, px and scratch
pub record Stage : Type 0 where
  pub canvas : Canvas
  pub px : List ℕ
  pub scratch : List Float

abbrev pub stage : Canvas → List ℕ → List Float → Stage
stage c px scratch = record { canvas = c; px = px; scratch = scratch }

-- after the item that some bytes are, and after `left` items from the item k on
unfoldable pub stage_after : List ℕ → Stage → Stage
stage_after b s =
    stage (state_after (item_of b) s.canvas) (shape_px b (item_of b) s.canvas s.px (length s.scratch))
    (shape_scratch b (item_of b) s.canvas (length s.px) s.scratch)

unfoldable pub stages_from : List ℕ → ℕ → ℕ → Stage → Stage
stages_from sheet zero k s = s
stages_from sheet (suc n) k s = stages_from sheet n (k + 1) (stage_after (bytes_at sheet k) s)

-- the steps of these items that alter a pixel's value
unfoldable pub item_steps : List ℕ → Stage → ℕ
item_steps b s = shape_steps b (item_of b) s.canvas s.px (length s.scratch)

unfoldable pub steps_from : List ℕ → ℕ → ℕ → Stage → ℕ
steps_from sheet zero k s = 0
steps_from sheet (suc n) k s = item_steps (bytes_at sheet k) s + steps_from sheet n (k + 1) (stage_after (bytes_at sheet k) s)

-- what drawing the item that some bytes are promises
abbrev pub DrewItem : List ℕ → Canvas → List ℕ → List Float → List ℕ → List Float → ℕ → Type 0
DrewItem b c px scratch =
    Left (shape_px b (item_of b) c px (length scratch)) (shape_scratch b (item_of b) c (length px) scratch)
    (item_steps b (stage c px scratch))
