-- The pixels of a box, and those that remain from a place on: the rest of the row, and the rows below it.
--     none_of, no_size                                 an empty box has no pixel
--     size_of_lem                                      a box in the canvas has as many as its size
--     remaining_all                                    at its corner the whole box remains
--     remaining_more, remaining_row, remaining_last    one pixel, and what remains after it
-- Assumes nothing.
use Prim.Native.Nat.{ℕ, zero, suc, ◌+◌, ◌-◌, ◌*◌, ◌≤◌, ◌<◌}
use mathlib.Core.Bool.{true, ◌||◌}
use mathlib.Core.List.{List, [], ◌∷◌, ◌++◌}
use mathlib.Core.Logic.{◌⊎◌, inl, inr, ⊎_elim}
use mathlib.Core.Path.{◌≡◌, refl, sym}
use native.Mathlib.Nat.{zero-mul, mul-zero, mul_comm}
use native.Mathlib.Omega.{arith}
use lib.IntN.{ℤ, pos, negsuc}
use lib.ListN.{length, get_or, take, drop, length-append, length-drop}
use lib.Seq.{drop-cons, length-take-le}
use lib.Signed.{le_z}
use Rattle.geom.specs.Int.{up}
use Rattle.geom.specs.Box.{empty}
use Rattle.geom.specs.declared.IRect.{IRect}
use Rattle.geom.proofs.Bools.{split}
use Rattle.geom.proofs.Int.{le_z_true}
use Rattle.draw.proofs.Rows.{room_of}
use Rattle.gfx.specs.declared.Canvas.{Canvas}
use Rattle.gfx.proofs.Sizes.{Open}
use Rattle.panel.specs.Registers.{columns_in, rows_in}
use Rattle.panel.specs.Lists.{rows_of, box_pixels, size_of}
use Rattle.panel.proofs.Places.{Inner}

up_le : (a b : ℤ) → le_z a b ≡ true → up a ≤ up b
up_le (pos a) b e = omega (arith, le_z_true (pos a) b e)
up_le (negsuc a) b e = omega arith

-- an empty box has no column or no row, and so no size
no_side : (b : IRect) → empty b ≡ true → (columns_in b ≡ 0) ⊎ (rows_in b ≡ 0)
unfolding empty
no_side b e =
    split (le_z b.x1 b.x0) (λ t. t || le_z b.y1 b.y0 ≡ true → (columns_in b ≡ 0) ⊎ (rows_in b ≡ 0))
    (λ q _. inl (omega (arith, up_le b.x1 b.x0 q))) (λ q k. inr (omega (arith, up_le b.y1 b.y0 k))) e

pub no_size : (b : IRect) → empty b ≡ true → size_of b ≡ 0
no_size b e =
    ⊎_elim (λ (z : columns_in b ≡ 0). rw z (zero-mul (rows_in b))) (λ (z : rows_in b ≡ 0). rw z (mul-zero (columns_in b)))
    (no_side b e)

module _ (px : List ℕ) (pitch : ℕ) where
  no_width : (x y h : ℕ) → rows_of px pitch x y 0 h ≡ []
  unfolding rows_of
  no_width x y zero = refl
  no_width x y (suc h) = no_width x (y + 1) h

  no_height : (x y w : ℕ) → rows_of px pitch x y w 0 ≡ []
  unfolding rows_of
  no_height x y w = refl

  pub none_of : (b : IRect) → empty b ≡ true → box_pixels px pitch b ≡ []
  unfolding box_pixels
  none_of b e =
      ⊎_elim (λ (z : columns_in b ≡ 0). rw z (no_width (up b.x0) (up b.y0) (rows_in b)))
      (λ (z : rows_in b ≡ 0). rw z (no_height (up b.x0) (up b.y0) (columns_in b))) (no_side b e)

  -- so many words of so many rows, where each row lies in px
  rows_length : (x y w h bottom : ℕ) → x + w ≤ pitch → y + h ≤ bottom → bottom * pitch ≤ length px
      → length (rows_of px pitch x y w h) ≡ w * h
  unfolding rows_of
  rows_length x y w zero bottom a d l = sym (mul-zero w)
  rows_length x y w (suc h) bottom a d l =
      let at = y * pitch + x in
      let room = room_of pitch y bottom (length px) (omega arith) l in
      let rest : w ≤ length (drop at px) = rw (length-drop at px) (omega (arith, room)) in
      rw (length-append (take w (drop at px)) (rows_of px pitch x (y + 1) w h), length-take-le w (drop at px) rest)
      (rw (rows_length x (y + 1) w h bottom a (omega arith) l) (omega arith))

  unfoldable pub remaining : ℕ → ℕ → ℕ → IRect → List ℕ
  remaining x y l b =
      take l (drop (y * pitch + x) px)
      ++ rows_of px pitch (up b.x0) (y + 1) (columns_in b) (up b.y1 - (y + 1))

  pub remaining_all : (b : IRect) → up b.y0 < up b.y1
      → remaining (up b.x0) (up b.y0) (columns_in b) b ≡ box_pixels px pitch b
  unfolding remaining box_pixels rows_of
  remaining_all b h = let e : rows_in b ≡ suc (up b.y1 - (up b.y0 + 1)) = omega arith in rw e

  module _ (x y l : ℕ) (b : IRect) (inside-px : y * pitch + x < length px) where
    -- the next pixel, of a row with k more to come
    pub remaining_more : (k : ℕ) → l ≡ suc k → remaining x y l b ≡ get_or px (y * pitch + x) 0 ∷ remaining (x + 1) y k b
    unfolding remaining
    remaining_more k e =
        let f : y * pitch + (x + 1) ≡ suc (y * pitch + x) = omega arith in
        rw (f, e, drop-cons px (y * pitch + x) 0 inside-px)

    -- the last of a row, with a row below
    pub remaining_row : l ≡ 1 → y + 1 < up b.y1
        → remaining x y l b ≡ get_or px (y * pitch + x) 0 ∷ remaining (up b.x0) (y + 1) (columns_in b) b
    unfolding remaining rows_of
    remaining_row e h =
        let f : up b.y1 - (y + 1) ≡ suc (up b.y1 - (y + 1 + 1)) = omega arith in
        rw (e, drop-cons px (y * pitch + x) 0 inside-px, f)

    -- the last of the box
    pub remaining_last : l ≡ 1 → up b.y1 ≤ y + 1 → remaining x y l b ≡ get_or px (y * pitch + x) 0 ∷ []
    unfolding remaining rows_of
    remaining_last e h =
        let f : up b.y1 - (y + 1) ≡ 0 = omega arith in
        rw (e, drop-cons px (y * pitch + x) 0 inside-px, f)

pub size_of_lem : (c : Canvas) (px : List ℕ) (b : IRect) → Open c (length px) → Inner c b
    → length (box_pixels px c.pitch b) ≡ size_of b
unfolding box_pixels
size_of_lem c px b o h =
    let long : up c.h * c.pitch ≤ length px = rw (o.frame.long, mul_comm c.pitch (up c.h)) (omega arith) in
    let across : up b.x0 + columns_in b ≤ c.pitch = omega (arith, h.across, h.right, o.frame.rows.room) in
    let down : up b.y0 + rows_in b ≤ up c.h = omega (arith, h.down, h.bottom) in
    rows_length px c.pitch (up b.x0) (up b.y0) (columns_in b) (rows_in b) (up c.h) across down long
