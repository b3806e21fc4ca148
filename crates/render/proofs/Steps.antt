-- An item that is in order, drawn by the canvas calls, is drawn as redraw has it: px, scratch and steps. Assumes nothing.
use Prim.Native.Nat.{ℕ, ◌*◌, ◌%◌, ◌≤◌}
use mathlib.Core.Path.{◌≡◌, refl, sym, ap, ◌∙◌}
use mathlib.Core.Bool.{Bool, true, ◌&&◌, false≢true}
use mathlib.Core.List.{List}
use native.Mathlib.Omega.{arith}
use borrow.Author.Tests.{eq-eqb, leb-true, le-leb}
use lib.Dec.{leb}
use lib.Ieee.{Float}
use lib.ListN.{length}
use Rattle.geom.specs.Plane.{rect_ok, pt_ok, float_ok}
use Rattle.geom.specs.declared.IRect.{IRect}
use Rattle.geom.specs.declared.Pt.{Pt}
use Rattle.geom.proofs.Bools.{and_left, and_right, and_both}
use Rattle.draw.specs.Draw.{drawn, differ}
use Rattle.draw.specs.Parts.{part, alters_all}
use Rattle.draw.proofs.Parts.{one_alters}
use Rattle.gfx.specs.Calls.{left, shape_number}
use Rattle.gfx.specs.Points.{points_ok, coords_ok, points_number}
use Rattle.paints.specs.Paints.{paint_ok}
use Rattle.gfx.specs.declared.Canvas.{Canvas}
use Rattle.paints.specs.declared.Paint.{Paint}
use Rattle.gfx.proofs.Sizes.{Open, open_number}
use Rattle.line.specs.Lines.{line_ok}
use Rattle.line.specs.Polylines.{polyline_steps}
use Rattle.line.proofs.Joints.{polyline_drawn}
use Rattle.poly.specs.Poly.{poly_number, poly_need, poly_ok, need_in, cleared}
use Rattle.poly.proofs.Accepts.{need_in_lem, reach_in_lem}
use Rattle.sheet.specs.Bytes.{floats}
use Rattle.items.specs.Items.{item_of, coords_from, points_of, joints_of}
use Rattle.items.specs.Format.{reach_of, ink_of, alone, parts_of, need_of, drawn_as, kind}
use Rattle.items.specs.declared.Item.{Item}
use Rattle.items.specs.declared.Item.TheVariants.{Push, Pop, Fill, Stroke, Line, Poly, Shadow, Chain, Unknown}
use Rattle.items.proofs.Sound.{item_ok}
use Rattle.items.proofs.PolyPoints.{coords_length, coords_ok_lem}
use Rattle.redraw.specs.Drawing as drawing
use Rattle.redraw.specs.Counts.{item_alters}
use Rattle.render.specs.Stages.{called, chain_px, chain_steps, poly_px, poly_scratch, shape_px, shape_scratch, shape_steps}

three : (p q r : Bool) → p && q && r ≡ true → p && (q && r) ≡ true
three p q r e = and_both (and_left p q (and_left (p && q) r e)) (and_both (and_right p q (and_left (p && q) r e)) (and_right (p && q) r e))

line_ok_lem : (p q : Pt) (width : Float) → pt_ok p && pt_ok q && float_ok width ≡ true → line_ok p q width ≡ true
unfolding line_ok
line_ok_lem p q width e = e

module _ (c : Canvas) (px : List ℕ) (o : Open c (length px)) where
  -- a shape call whose floats are in range draws
  shape_drawn : (ok : Bool) (reach : IRect) (ink : ℕ → ℕ → ℕ → ℕ) → ok ≡ true → called c ok reach ink px ≡ drawn c.pitch c.clip reach ink px
  unfolding left shape_number
  shape_drawn ok reach ink e = rw (open_number o, e)

-- a polygon or a chain: at most 64 points, whose floats stand in its bytes from a place on and are in range, as are the others that it has
module _ (b : List ℕ) (from count : ℕ) (others : Bool) (ok : leb count 64 && floats b from (2 * count) && others ≡ true) where
  few : leb count 64 ≡ true
  few = and_left _ (floats b from (2 * count)) (and_left _ others ok)

  coords : coords_ok (coords_from b from (2 * count)) ≡ true
  coords = coords_ok_lem b from (2 * count) (and_right (leb count 64) _ (and_left _ others ok))

  points : points_ok (coords_from b from (2 * count)) ≡ true
  unfolding points_ok
  points =
      let even : 2 * count % 2 ≡ 0 = omega arith in
      let short : 2 * count ≤ 128 = omega (arith, leb-true count 64 few) in
      rw (coords_length b from (2 * count)) (and_both (eq-eqb (2 * count % 2) 0 even) (le-leb (2 * count) 128 short))

  points_accepted : (c : Canvas) (px : List ℕ) → Open c (length px) → points_number c (length px) (coords_from b from (2 * count)) others ≡ 0
  unfolding points_number
  points_accepted c px o =
      rw (open_number o, points, coords, and_right (leb count 64 && floats b from (2 * count)) others ok)

module _ (b : List ℕ) (count : ℕ) (paint : Paint) (ok : leb count 64 && floats b 32 (2 * count) && paint_ok paint ≡ true) where
  poly_ok_lem : poly_ok (points_of b count) ≡ true
  unfolding poly_ok
  poly_ok_lem = and_both (points b 32 count (paint_ok paint) ok) (coords b 32 count (paint_ok paint) ok)

  poly_accepted : (c : Canvas) (px : List ℕ) (words : ℕ) → Open c (length px) → need_in (points_of b count) ≤ words
      → poly_number c (length px) (points_of b count) paint words ≡ 0
  unfolding poly_number
  poly_accepted c px words o h =
      rw (points_accepted b 32 count (paint_ok paint) ok c px o, le-leb (poly_need (points_of b count)) words (rw (need_in_lem _ poly_ok_lem) at h))

module _ (b : List ℕ) (c : Canvas) (px : List ℕ) (o : Open c (length px)) (scratch : List Float) where
  -- px, by the item that the bytes are
  pub px_item : (i : Item) → item_of b ≡ i → item_ok b c.depth i ≡ true → need_of b i ≤ length scratch
      → shape_px b i c px (length scratch) ≡ drawing.item_on kind c.pitch (drawn_as b i) c.clip px
  unfolding shape_px item_ok need_of reach_of ink_of drawn_as drawing.item_on drawing.shape_on poly_px chain_px left
  px_item (Push rect) e k h = refl
  px_item Pop e k h = refl
  px_item (Fill rect r paint) e k h = rw (e) (shape_drawn c px o _ _ _ k)
  px_item (Stroke rect r width color) e k h = rw (e) (shape_drawn c px o _ _ _ (three (rect_ok rect) (float_ok r) (float_ok width) k))
  px_item (Line p q width color) e k h = rw (e) (shape_drawn c px o _ _ _ (line_ok_lem p q width k))
  px_item (Poly paint count) e k h =
      rw (e, few b 32 count (paint_ok paint) k, poly_accepted b count paint k c px (length scratch) o h, reach_in_lem _ (poly_ok_lem b count paint k))
  px_item (Shadow rect r blur color skip) e k h = rw (e) (shape_drawn c px o _ _ _ (three (rect_ok rect) (float_ok r) (float_ok blur) k))
  px_item (Chain width color count) e k h =
      rw (e, few b 12 count (float_ok width) k, points_accepted b 12 count (float_ok width) k c px o) (polyline_drawn (joints_of b count) width color c.pitch c.clip px)
  px_item Unknown e k h = absurd (false≢true k)

  pub scratch_item : (i : Item) → item_ok b c.depth i ≡ true → need_of b i ≤ length scratch
      → shape_scratch b i c (length px) scratch ≡ cleared (need_of b i) scratch
  unfolding shape_scratch item_ok need_of poly_scratch cleared
  scratch_item (Push rect) k h = refl
  scratch_item Pop k h = refl
  scratch_item (Fill rect r paint) k h = refl
  scratch_item (Stroke rect r width color) k h = refl
  scratch_item (Line p q width color) k h = refl
  scratch_item (Poly paint count) k h =
      rw (few b 32 count (paint_ok paint) k, poly_accepted b count paint k c px (length scratch) o h, need_in_lem _ (poly_ok_lem b count paint k))
  scratch_item (Shadow rect r blur color skip) k h = refl
  scratch_item (Chain width color count) k h = refl
  scratch_item Unknown k h = absurd (false≢true k)

  -- a shape of one part alters the pixels at which px before and after it differ
  one_step : (i : Item) → item_of b ≡ i → parts_of b i ≡ alone b i → (qx : List ℕ) → qx ≡ drawing.shape_on kind c.pitch c.clip b px
      → differ px qx ≡ alters_all c.pitch c.clip (kind.parts b) px
  unfolding drawing.shape_on
  one_step i e p qx d = ap (differ px) d ∙ rw (e, p) (sym (one_alters c.pitch c.clip (part (reach_of b i) (ink_of b i)) px))

  pub steps_item : (i : Item) → item_of b ≡ i → item_ok b c.depth i ≡ true → need_of b i ≤ length scratch
      → shape_steps b i c px (length scratch) ≡ item_alters kind c.pitch (drawn_as b i) c.clip px
  unfolding shape_steps shape_px item_ok parts_of drawn_as drawing.item_on item_alters chain_steps polyline_steps
  steps_item (Push rect) e k h = refl
  steps_item Pop e k h = refl
  steps_item (Fill rect r paint) e k h = one_step (Fill rect r paint) e refl _ (px_item (Fill rect r paint) e k h)
  steps_item (Stroke rect r width color) e k h = one_step (Stroke rect r width color) e refl _ (px_item (Stroke rect r width color) e k h)
  steps_item (Line p q width color) e k h = one_step (Line p q width color) e refl _ (px_item (Line p q width color) e k h)
  steps_item (Poly paint count) e k h = one_step (Poly paint count) e refl _ (px_item (Poly paint count) e k h)
  steps_item (Shadow rect r blur color skip) e k h =
      one_step (Shadow rect r blur color skip) e refl _ (px_item (Shadow rect r blur color skip) e k h)
  steps_item (Chain width color count) e k h =
      rw (e, few b 12 count (float_ok width) k, points_accepted b 12 count (float_ok width) k c px o)
  steps_item Unknown e k h = absurd (false≢true k)
