-- Laws of `drawn_in`, by which a loop that goes through a box row by row, and through a row from the left, leaves `drawn_in` of the box.
--     length_drawn              the length
--     none_across, none_down    an empty box, as where such a loop begins
--     row_join                  a part of a row after the part on its left
--     rows_join                 rows after the rows above them
--     row_count, rows_count     how many pixels two such parts alter
--     drawn_same, row_same      another pixel function, which agrees in the box
--     drawn_at                  a pixel of what is drawn
-- Assumes nothing.
use mathlib.Core.Path.{◌≡◌, refl, sym, ap₂, ◌∙◌}
use mathlib.Core.List.{List}
use mathlib.Core.Logic.{◌⊎◌, inl, inr, ⊎_elim}
use mathlib.Core.Bool.{Bool, true, false, cond, ◌&&◌, ◌||◌}
use Prim.Native.Nat.{ℕ, ◌+◌, ◌*◌, ◌/◌, ◌%◌, ◌<◌, ◌≤◌}
use native.Mathlib.Nat.{div-add-mod', suc-mul, mul-le-mul_right}
use native.Mathlib.Omega.{arith}
use lib.Arith.{digits_div, digits_mod}
use lib.Dec.{leb, ltb, eqb}
use lib.ListN.{length, get_or, set}
use borrow.Author.Tests.{ltb-true, ltb-false, leb-true, eqb-true, eqb-false, lt-ltb, le-ltb, le-leb, lt-leb, eq-eqb, ne_eqb}
use Rattle.draw.specs.declared.Area.{Area}
use Rattle.draw.specs.Draw.{differ}
use Rattle.draw.specs.Areas.{within, in_area, drawn_in, area}
use Rattle.draw.proofs.Onto.{length_onto, get_d_onto, onto_none, onto_idle, onto_one, onto_same, onto_join, onto_count}

-- ---- within

side : (a b : ℕ) → (a < b) ⊎ (b ≤ a)
side a b = go (ltb a b) refl
  where
    go : (t : Bool) → ltb a b ≡ t → (a < b) ⊎ (b ≤ a)
    go true e = inl (ltb-true a b e)
    go false e = inr (ltb-false a b e)

pub off : (t : Bool) → (t && false) ≡ false
off true = refl
off false = refl

pub within_in : (lo hi x : ℕ) → lo ≤ x → x < hi → within lo hi x ≡ true
unfolding within
within_in lo hi x l h = rw (le-leb lo x, lt-ltb x hi)

pub within_below : (lo hi x : ℕ) → x < lo → within lo hi x ≡ false
unfolding within
within_below lo hi x h = rw (lt-leb lo x)

pub within_above : (lo hi x : ℕ) → hi ≤ x → within lo hi x ≡ false
unfolding within
within_above lo hi x h = rw (le-ltb x hi) (off (leb lo x))

left_true : (a b : Bool) → (a && b) ≡ true → a ≡ true
left_true true b e = refl
left_true false b e = e

right_true : (a b : Bool) → (a && b) ≡ true → b ≡ true
right_true true b e = e
right_true false b e = let z : ◌≡◌ {A = ℕ} 0 1 = cc in absurd (omega arith)

pub within_true : (lo hi x : ℕ) → within lo hi x ≡ true → (lo ≤ x) × (x < hi)
unfolding within
within_true lo hi x e = (leb-true lo x (left_true (leb lo x) (ltb x hi) e), ltb-true x hi (right_true (leb lo x) (ltb x hi) e))

pub within_none : (lo hi x : ℕ) → hi ≤ lo → within lo hi x ≡ false
within_none lo hi x l = ⊎_elim (λ h. within_below lo hi x h) (λ h. within_above lo hi x (omega arith)) (side x lo)

within_one : (a x : ℕ) → within a (a + 1) x ≡ eqb x a
within_one a x =
    ⊎_elim
    (λ h. within_below a (a + 1) x h ∙ sym (ne_eqb x a (λ e. omega arith)))
    (λ h. ⊎_elim
    (λ k. within_in a (a + 1) x h k ∙ sym (eq-eqb x a (omega arith)))
    (λ k. within_above a (a + 1) x k ∙ sym (ne_eqb x a (λ e. omega arith)))
    (side x (a + 1)))
    (side x a)

module _ (lo mid hi : ℕ) (l : lo ≤ mid) (h : mid ≤ hi) (x : ℕ) where
  within_apart : (within lo mid x && within mid hi x) ≡ false
  within_apart = ⊎_elim (λ (k : x < mid). rw (within_below mid hi x) (off (within lo mid x))) (λ (k : mid ≤ x). rw (within_above lo mid x)) (side x mid)

  within_both : (within lo mid x || within mid hi x) ≡ within lo hi x
  within_both =
      ⊎_elim
      (λ (k : x < mid). ⊎_elim
      (λ (j : x < lo). rw (within_below lo mid x, within_below mid hi x, within_below lo hi x))
      (λ (j : lo ≤ x). let i : x < hi = omega arith in rw (within_in lo mid x, within_in lo hi x))
      (side x lo))
      (λ (k : mid ≤ x). ⊎_elim
      (λ (j : x < hi). let i : lo ≤ x = omega arith in rw (within_above lo mid x, within_in mid hi x, within_in lo hi x))
      (λ (j : hi ≤ x). rw (within_above lo mid x, within_above mid hi x, within_above lo hi x))
      (side x hi))
      (side x mid)

-- ---- two parts of a box, one beside the other, or one below the other

apart_left : (a b c : Bool) → (a && b) ≡ false → ((a && c) && (b && c)) ≡ false
apart_left true b c q = rw q (off c)
apart_left false b c q = refl

apart_right : (a b c : Bool) → (a && b) ≡ false → ((c && a) && (c && b)) ≡ false
apart_right a b true q = q
apart_right a b false q = refl

both_left : (a b c : Bool) → ((a && c) || (b && c)) ≡ ((a || b) && c)
both_left true true true = refl
both_left true true false = refl
both_left true false true = refl
both_left true false false = refl
both_left false b c = refl

both_right : (a b c : Bool) → ((c && a) || (c && b)) ≡ (c && (a || b))
both_right a b true = refl
both_right a b false = refl

-- ---- places

-- the place of column x and row y is the one whose column is x and whose row is y
place : (pitch x y j : ℕ) → x < pitch → (eqb (j % pitch) x && eqb (j / pitch) y) ≡ eqb j (y * pitch + x)
place pitch x y j h = go (eqb (j % pitch) x) (eqb (j / pitch) y) refl refl
  where
    go : (a b : Bool) → eqb (j % pitch) x ≡ a → eqb (j / pitch) y ≡ b → (a && b) ≡ eqb j (y * pitch + x)
    go true true p q = sym (eq-eqb j (y * pitch + x) (sym (div-add-mod' j pitch) ∙ ap₂ (λ (r c : ℕ). r * pitch + c) (eqb-true (j / pitch) y q) (eqb-true (j % pitch) x p)))
    go true false p q = sym (ne_eqb j (y * pitch + x) (λ e. eqb-false (j / pitch) y q (rw e (digits_div y h))))
    go false b p q = sym (ne_eqb j (y * pitch + x) (λ e. eqb-false (j % pitch) x p (rw e (digits_mod y h))))

-- a row above the bottom lies within the list
pub room_of : (pitch y y1 n : ℕ) → y < y1 → y1 * pitch ≤ n → y * pitch + pitch ≤ n
room_of pitch y y1 n h l = omega (arith, suc-mul y pitch, mul-le-mul_right pitch h)

-- ---- drawn_in

module _ (pitch : ℕ) (f : ℕ → ℕ → ℕ → ℕ) (px : List ℕ) where
  pub length_drawn : (b : Area) → length (drawn_in pitch b f px) ≡ length px
  unfolding drawn_in
  length_drawn b = length_onto (λ i. in_area b (i % pitch) (i / pitch)) (λ i p. f (i % pitch) (i / pitch) p) px

  -- a pixel of what is drawn
  pub drawn_at : (b : Area) (k : ℕ) → k < length px
      → get_or (drawn_in pitch b f px) k 0 ≡ cond (in_area b (k % pitch) (k / pitch)) (f (k % pitch) (k / pitch) (get_or px k 0)) (get_or px k 0)
  unfolding drawn_in
  drawn_at b k h = get_d_onto (λ i. in_area b (i % pitch) (i / pitch)) (λ i p. f (i % pitch) (i / pitch) p) px k h

  -- another pixel function, which agrees in the box
  pub drawn_same : (b : Area) (g : ℕ → ℕ → ℕ → ℕ) → ((x y p : ℕ) → in_area b x y ≡ true → f x y p ≡ g x y p) → drawn_in pitch b f px ≡ drawn_in pitch b g px
  unfolding drawn_in
  drawn_same b g h =
      onto_same (λ i. in_area b (i % pitch) (i / pitch)) (λ i p. f (i % pitch) (i / pitch) p) (λ i p. g (i % pitch) (i / pitch) p) px (λ k p l e. h (k % pitch) (k / pitch) p e)

  -- a pixel function that leaves every pixel
  pub drawn_idle : (b : Area) → px ≡ drawn_in pitch b (λ x y p. p) px
  unfolding drawn_in
  drawn_idle b = onto_idle (λ i. in_area b (i % pitch) (i / pitch)) px

  -- a box with no column, or with no row
  pub none_across : (b : Area) → b.x1 ≤ b.x0 → px ≡ drawn_in pitch b f px
  unfolding drawn_in
  none_across b h = onto_none (λ i. in_area b (i % pitch) (i / pitch)) (λ i p. f (i % pitch) (i / pitch) p) px (λ k l. rw (within_none b.x0 b.x1 (k % pitch)))

  pub none_down : (b : Area) → b.y1 ≤ b.y0 → px ≡ drawn_in pitch b f px
  unfolding drawn_in
  none_down b h =
      onto_none (λ i. in_area b (i % pitch) (i / pitch)) (λ i p. f (i % pitch) (i / pitch) p) px (λ k l. rw (within_none b.y0 b.y1 (k / pitch)) (off (within b.x0 b.x1 (k % pitch))))

  -- the columns from m on after those before m
  pub row_join : (x0 m x1 y0 y1 : ℕ) → x0 ≤ m → m ≤ x1 → drawn_in pitch (area m y0 x1 y1) f (drawn_in pitch (area x0 y0 m y1) f px) ≡ drawn_in pitch (area x0 y0 x1 y1) f px
  unfolding drawn_in
  row_join x0 m x1 y0 y1 l h =
      onto_join _ _ _ (λ i p. f (i % pitch) (i / pitch) p) px
      (λ k. apart_left (within x0 m (k % pitch)) (within m x1 (k % pitch)) (within y0 y1 (k / pitch)) (within_apart x0 m x1 l h (k % pitch)))
      (λ k. both_left (within x0 m (k % pitch)) (within m x1 (k % pitch)) (within y0 y1 (k / pitch)) ∙ rw (within_both x0 m x1 l h (k % pitch)))

  -- the rows from m on after those before m
  pub rows_join : (x0 x1 y0 m y1 : ℕ) → y0 ≤ m → m ≤ y1 → drawn_in pitch (area x0 m x1 y1) f (drawn_in pitch (area x0 y0 x1 m) f px) ≡ drawn_in pitch (area x0 y0 x1 y1) f px
  unfolding drawn_in
  rows_join x0 x1 y0 m y1 l h =
      onto_join _ _ _ (λ i p. f (i % pitch) (i / pitch) p) px
      (λ k. apart_right (within y0 m (k / pitch)) (within m y1 (k / pitch)) (within x0 x1 (k % pitch)) (within_apart y0 m y1 l h (k / pitch)))
      (λ k. both_right (within y0 m (k / pitch)) (within m y1 (k / pitch)) (within x0 x1 (k % pitch)) ∙ rw (within_both y0 m y1 l h (k / pitch)))

  -- of two such parts the counts add up
  pub row_count : (x0 m x1 y0 y1 : ℕ) → x0 ≤ m → m ≤ x1 → let half = drawn_in pitch (area x0 y0 m y1) f px in
      differ px (drawn_in pitch (area m y0 x1 y1) f half) ≡ differ px half + differ half (drawn_in pitch (area m y0 x1 y1) f half)
  unfolding drawn_in
  row_count x0 m x1 y0 y1 l h =
      onto_count _ _ (λ i p. f (i % pitch) (i / pitch) p) (λ i p. f (i % pitch) (i / pitch) p) px
      (λ k. apart_left (within x0 m (k % pitch)) (within m x1 (k % pitch)) (within y0 y1 (k / pitch)) (within_apart x0 m x1 l h (k % pitch)))

  pub rows_count : (x0 x1 y0 m y1 : ℕ) → y0 ≤ m → m ≤ y1 → let half = drawn_in pitch (area x0 y0 x1 m) f px in
      differ px (drawn_in pitch (area x0 m x1 y1) f half) ≡ differ px half + differ half (drawn_in pitch (area x0 m x1 y1) f half)
  unfolding drawn_in
  rows_count x0 x1 y0 m y1 l h =
      onto_count _ _ (λ i p. f (i % pitch) (i / pitch) p) (λ i p. f (i % pitch) (i / pitch) p) px
      (λ k. apart_right (within y0 m (k / pitch)) (within m y1 (k / pitch)) (within x0 x1 (k % pitch)) (within_apart y0 m y1 l h (k / pitch)))

  -- the store of one pixel
  pub cell : (x y : ℕ) → x < pitch → y * pitch + x < length px → set px (y * pitch + x) (f x y (get_or px (y * pitch + x) 0)) ≡ drawn_in pitch (area x y (x + 1) (y + 1)) f px
  unfolding drawn_in
  cell x y h l =
      ap₂ (λ (c r : ℕ). set px (y * pitch + x) (f c r (get_or px (y * pitch + x) 0))) (sym (digits_mod y h)) (sym (digits_div y h))
      ∙ onto_one (λ i. in_area (area x y (x + 1) (y + 1)) (i % pitch) (i / pitch)) (λ i p. f (i % pitch) (i / pitch) p) px (y * pitch + x) l
      (λ j _. rw (within_one x (j % pitch), within_one y (j / pitch)) (place pitch x y j h))

-- another pixel function, which agrees in a part of a row
pub row_same : (pitch : ℕ) (f g : ℕ → ℕ → ℕ → ℕ) (px : List ℕ) (x0 x1 y : ℕ) → ((x p : ℕ) → x0 ≤ x → x < x1 → f x y p ≡ g x y p)
    → drawn_in pitch (area x0 y x1 (y + 1)) f px ≡ drawn_in pitch (area x0 y x1 (y + 1)) g px
row_same pitch f g px x0 x1 y h = drawn_same pitch f px (area x0 y x1 (y + 1)) g at
  where
    at : (x r p : ℕ) → in_area (area x0 y x1 (y + 1)) x r ≡ true → f x r p ≡ g x r p
    at x r p e =
        let a = within_true x0 x1 x (left_true (within x0 x1 x) (within y (y + 1) r) e) in
        let b = within_true y (y + 1) r (right_true (within x0 x1 x) (within y (y + 1) r) e) in
        let q : r ≡ y = omega arith in
        rw q (h x p a.0 a.1)
