-- What a valid state tells: its sides as natural numbers, its clips as boxes within the canvas. Assumes nothing.
use mathlib.Core.Path.{◌≡◌, refl}
use mathlib.Core.Bool.{true, false, ◌&&◌, ◌||◌}
use mathlib.Core.Logic.{◌⊎◌, inl, inr}
use Prim.Native.Nat.{ℕ, ◌≤◌}
use native.Mathlib.Omega.{arith}
use borrow.Author.Tests.{leb-true}
use lib.Dec.{leb}
use lib.IntN.{ℤ, pos, negsuc}
use lib.Signed.{le_z}
use Rattle.geom.specs.declared.IRect.{IRect}
use Rattle.geom.specs.Int.{up}
use Rattle.geom.specs.Box.{box_of, meet, empty}
use Rattle.geom.proofs.Bools.{and_left, and_right, and_both, or_false, split}
use Rattle.geom.proofs.Int.{order_z}
use Rattle.geom.proofs.Boxes.{Within, meet_within}
use Rattle.gfx.specs.State.{side_ok, range_in, in_canvas, clip_ok, places_ok, frame_ok, valid_of}
use Rattle.gfx.specs.declared.Canvas.{Canvas}

-- ---- sides

pub record Side (z : ℤ) : Type 0 where
  pub is : z ≡ pos (up z)
  pub low : 1 ≤ up z
  pub high : up z ≤ 2048

pub side_of : (z : ℤ) → side_ok z ≡ true → Side z
unfolding side_ok
side_of (pos n) e =
    record { is = refl; low = leb-true 1 n (and_left _ _ e); high = leb-true n 2048 (and_right (leb 1 n) _ e) }
side_of (negsuc n) e = let z : ◌≡◌ {A = ℕ} 0 1 = cc in absurd (omega arith)

-- ---- clips

-- the whole canvas
abbrev pub frame : ℤ → ℤ → IRect
frame w h = box_of (pos 0) (pos 0) w h

-- a clip is empty, or lies within the canvas
pub clip_cases : (w h : ℤ) (b : IRect) → clip_ok w h b ≡ true → (empty b ≡ true) ⊎ Within (frame w h) b
unfolding clip_ok in_canvas range_in empty
clip_cases w h b e = split (empty b) (λ t. t || in_canvas w h b ≡ true → (t ≡ true) ⊎ Within (frame w h) b) (λ p q. inl refl) (λ p q. inr (within p q)) e
  where
    within : empty b ≡ false → in_canvas w h b ≡ true → Within (frame w h) b
    within p q =
        let o = or_false (le_z b.x1 b.x0) (le_z b.y1 b.y0) p in
        let x = and_left (range_in b.x0 b.x1 w) (range_in b.y0 b.y1 h) q in
        let y = and_right (range_in b.x0 b.x1 w) (range_in b.y0 b.y1 h) q in
        let l = and_left (le_z (pos 0) b.x0) (le_z b.x1 w) x in
        let r = and_right (le_z (pos 0) b.x0) (le_z b.x1 w) x in
        let t = and_left (le_z (pos 0) b.y0) (le_z b.y1 h) y in
        let d = and_right (le_z (pos 0) b.y0) (le_z b.y1 h) y in
        omega (order_z, o.0, o.1)

within_canvas : (w h : ℤ) (b : IRect) → Within (frame w h) b → in_canvas w h b ≡ true
unfolding in_canvas range_in
within_canvas w h b i = and_both (and_both i.left i.right) (and_both i.top i.bottom)

pub clip_of : (w h : ℤ) (b : IRect) → (empty b ≡ true) ⊎ Within (frame w h) b → clip_ok w h b ≡ true
unfolding clip_ok
clip_of w h b (inl e) = rw e
clip_of w h b (inr i) = split (empty b) (λ t. t || in_canvas w h b ≡ true) (λ p. refl) (λ p. within_canvas w h b i)

-- a clip that is cut stays one
pub clip_meet : (w h : ℤ) (a b : IRect) → clip_ok w h a ≡ true → clip_ok w h (meet a b) ≡ true
clip_meet w h a b e = clip_of w h (meet a b) (meet_within (frame w h) a b (clip_cases w h a e))

-- ---- the parts of a valid state

pub record Valid (c : Canvas) : Type 0 where
  pub side_w : side_ok c.w ≡ true
  pub side_h : side_ok c.h ≡ true
  pub deep : leb c.depth 16 ≡ true
  pub clip : clip_ok c.w c.h c.clip ≡ true
  pub places : places_ok c 16 ≡ true

pub valid_of_lem : (c : Canvas) → valid_of c ≡ true → Valid c
unfolding valid_of frame_ok
valid_of_lem c e =
    let w = side_ok c.w in
    let h = side_ok c.h in
    let d = leb c.depth 16 in
    let k = clip_ok c.w c.h c.clip in
    let f = and_left (w && h && d && k) (places_ok c 16) e in
    let g = and_left (w && h && d) k f in
    let i = and_left (w && h) d g in
    record {
      side_w = and_left w h i;
      side_h = and_right w h i;
      deep = and_right (w && h) d g;
      clip = and_right (w && h && d) k f;
      places = and_right (w && h && d && k) (places_ok c 16) e;
    }

pub of_valid : (c : Canvas) → Valid c → valid_of c ≡ true
unfolding valid_of frame_ok
of_valid c v = rw (v.side_w, v.side_h, v.deep, v.clip, v.places)

pub valid_depth : (c : Canvas) → valid_of c ≡ true → c.depth ≤ 16
valid_depth c e = leb-true c.depth 16 (valid_of_lem c e).deep
