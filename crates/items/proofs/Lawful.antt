-- The format is lawful: items that it calls the same are equal, a sheet has a row, no reading is refused by 0, and a shape's parts, drawn one
-- after the other, are the shape. Assumes nothing.
use Prim.Native.Nat.{ℕ, ◌/◌, ◌%◌, ◌≤◌}
use mathlib.Core.Path.{◌≡◌, refl, sym, ap, ◌∙◌}
use mathlib.Core.Bool.{Bool, true, false, cond, ◌&&◌, false≢true}
use mathlib.Core.List.{List, [], ◌∷◌}
use native.Mathlib.Omega.{arith}
use lib.Dec.{eqb, leb}
use lib.Ieee.{Float}
use lib.IntN.{ℤ, pos, negsuc}
use borrow.Author.Tests.{eqb-true, eqb-false, eq-eqb, leb-true}
use Rattle.geom.proofs.Bools.{and_left, and_right, split}
use Rattle.geom.specs.Int.{eq_z}
use Rattle.geom.specs.Box.{box_of, no_box, inside, HoldsAll}
use Rattle.geom.specs.declared.IRect.{IRect}
use Rattle.geom.proofs.Boxes.{in_no_box}
use Rattle.color.specs.declared.Color.{Color}
use Rattle.draw.specs.Draw.{meets, drawn}
use Rattle.draw.specs.Parts.{Part, reach_all, ink_all, drawn_all}
use Rattle.draw.proofs.Onto.{onto_none}
use Rattle.draw.proofs.Parts.{reach_smallest, all_drawn, one_drawn}
use Rattle.line.specs.Polylines.{chain_of}
use Rattle.sheet.specs.Check.{height_of, sheet_check}
use Rattle.sheet.proofs.Accepted as sheets
use Rattle.redraw.specs.Drawing as drawing
use Rattle.redraw.specs.Drawing.{push, pop, shape}
use Rattle.redraw.specs.Sheet.{Sheet, Reading, refused, read, Lawful}
use Rattle.redraw.proofs.Shed.{PartsWithin}
use Rattle.items.specs.Items.{item_of, joints_of}
use Rattle.items.specs.Format.{reach_of, ink_of, alone, parts_of, kind, drawn_as, item_in, bytes_of, same_bytes, same_box, same_item, sheet_of, reading, format}
use Rattle.items.specs.declared.Item.{Item}
use Rattle.items.specs.declared.Item.TheVariants.{Push, Pop, Fill, Stroke, Line, Poly, Shadow, Chain, Unknown}
use Rattle.items.proofs.Readings.{read_is}

pub bytes_equal : (a b : List ℕ) → same_bytes a b ≡ true → a ≡ b
unfolding same_bytes
bytes_equal [] [] e = refl
bytes_equal [] (y ∷ b) e = absurd (false≢true e)
bytes_equal (x ∷ a) [] e = absurd (false≢true e)
bytes_equal (x ∷ a) (y ∷ b) e =
    rw (eqb-true x y (and_left _ (same_bytes a b) e), bytes_equal a b (and_right (eqb x y) _ e))

pub bytes_same : (a : List ℕ) → same_bytes a a ≡ true
unfolding same_bytes
bytes_same [] = refl
bytes_same (x ∷ a) = rw (eq-eqb x x refl) (bytes_same a)

int_equal : (a b : ℤ) → eq_z a b ≡ true → a ≡ b
int_equal (pos a) (pos b) e = ap pos (eqb-true a b e)
int_equal (pos a) (negsuc b) e = absurd (false≢true e)
int_equal (negsuc a) (pos b) e = absurd (false≢true e)
int_equal (negsuc a) (negsuc b) e = ap negsuc (eqb-true a b e)

int_same : (a : ℤ) → eq_z a a ≡ true
int_same (pos a) = eq-eqb a a refl
int_same (negsuc a) = eq-eqb a a refl

box_equal : (p q : IRect) → same_box p q ≡ true → p ≡ q
unfolding same_box
box_equal p q e =
    let xyx = and_left _ (eq_z p.y1 q.y1) e in
    let xy = and_left _ (eq_z p.x1 q.x1) xyx in
    boxes (int_equal p.x0 q.x0 (and_left _ (eq_z p.y0 q.y0) xy)) (int_equal p.y0 q.y0 (and_right (eq_z p.x0 q.x0) _ xy))
    (int_equal p.x1 q.x1 (and_right (eq_z p.x0 q.x0 && eq_z p.y0 q.y0) _ xyx))
    (int_equal p.y1 q.y1 (and_right (eq_z p.x0 q.x0 && eq_z p.y0 q.y0 && eq_z p.x1 q.x1) _ e))
  where
    boxes : p.x0 ≡ q.x0 → p.y0 ≡ q.y0 → p.x1 ≡ q.x1 → p.y1 ≡ q.y1 → p ≡ q
    boxes a b c d = ap (λ (x : ℤ). box_of x p.y0 p.x1 p.y1) a ∙ ap (λ (y : ℤ). box_of q.x0 y p.x1 p.y1) b
        ∙ ap (λ (x : ℤ). box_of q.x0 q.y0 x p.y1) c ∙ ap (λ (y : ℤ). box_of q.x0 q.y0 q.x1 y) d

pub box_same : (p : IRect) → same_box p p ≡ true
unfolding same_box
box_same p = rw (int_same p.x0, int_same p.y0, int_same p.x1, int_same p.y1)

-- an item is the same as itself
pub item_same : (i : drawing.Item (List ℕ)) → same_item i i ≡ true
unfolding same_item
item_same (push a p) = rw (bytes_same a, box_same p)
item_same (pop a) = bytes_same a
item_same (shape a) = bytes_same a

sound : (i j : drawing.Item (List ℕ)) → same_item i j ≡ true → i ≡ j
unfolding same_item
sound (push a p) (push b q) e = rw (bytes_equal a b (and_left _ (same_box p q) e), box_equal p q (and_right (same_bytes a b) _ e))
sound (push a p) (pop b) e = absurd (false≢true e)
sound (push a p) (shape b) e = absurd (false≢true e)
sound (pop a) (push b q) e = absurd (false≢true e)
sound (pop a) (pop b) e = ap pop (bytes_equal a b e)
sound (pop a) (shape b) e = absurd (false≢true e)
sound (shape a) (push b q) e = absurd (false≢true e)
sound (shape a) (pop b) e = absurd (false≢true e)
sound (shape a) (shape b) e = ap shape (bytes_equal a b e)

-- the height is 1 to 2,048
tall : (s : List ℕ) (t : Sheet (List ℕ)) → reading s ≡ read t → 1 ≤ t.h
tall s t e =
    let r = read_is s t e in
    rw r.1 (leb-true 1 (height_of s) (and_left (leb 1 (height_of s)) (leb (height_of s) 2048) (sheets.accepted s r.0).height))

abbrev is_refused : Reading (List ℕ) → Bool
is_refused (refused n k) = true
is_refused (read s) = false

abbrev number_of : Reading (List ℕ) → ℕ
number_of (refused n k) = n
number_of (read s) = 0

positive : {n : ℕ} → (n ≡ 0 → ⊥) → 1 ≤ n
positive h = omega arith

numbered : (s : List ℕ) (n k : ℕ) → reading s ≡ refused n k → 1 ≤ n
unfolding reading
numbered s n k e =
    split (eqb (sheet_check s).number 0)
    (λ t. cond t (read (sheet_of s)) (refused (sheet_check s).number (sheet_check s).item) ≡ refused n k → 1 ≤ n)
    (λ z r. absurd (false≢true (ap is_refused r)))
    (λ z r. rw (sym (ap number_of r)) (positive (eqb-false _ 0 z)))
    e

-- ---- parts

module _ (pitch : ℕ) (clip : IRect) (px : List ℕ) where
  -- a shape without reach leaves px
  unreached : (ink : ℕ → ℕ → ℕ → ℕ) → px ≡ drawn pitch clip no_box ink px
  unfolding drawn meets
  unreached ink =
      onto_none _ _ px (λ k l. let e : inside no_box (pos (k % pitch)) (pos (k / pitch)) ≡ false = in_no_box (pos (k % pitch)) (pos (k / pitch)) in
      rw e (neither (inside clip (pos (k % pitch)) (pos (k / pitch)))))
    where
      neither : (t : Bool) → (t && false) ≡ false
      neither true = refl
      neither false = refl

  -- the lines of a chain, and of one whose points are too many
  lines : (b : List ℕ) (width : Float) (color : Color) (count : ℕ) (t : Bool) → let l = chain_of (joints_of b count) width color in
      drawn_all pitch clip (cond t l []) px ≡ drawn pitch clip (cond t (reach_all l) no_box) (ink_all l) px
  unfolding drawn_all
  lines b width color count true = all_drawn pitch clip (chain_of (joints_of b count) width color) px
  lines b width color count false = unreached _

  parts_drawn : (b : List ℕ) (i : Item) → drawn_all pitch clip (parts_of b i) px ≡ drawn pitch clip (reach_of b i) (ink_of b i) px
  unfolding parts_of reach_of ink_of
  parts_drawn b (Push rect) = one_drawn pitch clip _ px
  parts_drawn b Pop = one_drawn pitch clip _ px
  parts_drawn b (Fill rect r paint) = one_drawn pitch clip _ px
  parts_drawn b (Stroke rect r width color) = one_drawn pitch clip _ px
  parts_drawn b (Line p q width color) = one_drawn pitch clip _ px
  parts_drawn b (Poly paint count) = one_drawn pitch clip _ px
  parts_drawn b (Shadow rect r blur color skip) = one_drawn pitch clip _ px
  parts_drawn b (Chain width color count) = lines b width color count (leb count 64)
  parts_drawn b Unknown = one_drawn pitch clip _ px

-- ---- each part lies within the reach of the whole

one_within : (b : List ℕ) (i : Item) → HoldsAll (reach_of b i) (λ (p : Part). p.reach) (alone b i)
unfolding HoldsAll
one_within b i = (record { holds = λ x y e. e }, tt)

lines_within : (l : List Part) (t : Bool) → HoldsAll (cond t (reach_all l) no_box) (λ (p : Part). p.reach) (cond t l [])
unfolding HoldsAll
lines_within l true = (reach_smallest l).around
lines_within l false = tt

parts_within : (b : List ℕ) (i : Item) → HoldsAll (reach_of b i) (λ (p : Part). p.reach) (parts_of b i)
unfolding parts_of reach_of
parts_within b (Push rect) = one_within b (Push rect)
parts_within b Pop = one_within b Pop
parts_within b (Fill rect r paint) = one_within b (Fill rect r paint)
parts_within b (Stroke rect r width color) = one_within b (Stroke rect r width color)
parts_within b (Line p q width color) = one_within b (Line p q width color)
parts_within b (Poly paint count) = one_within b (Poly paint count)
parts_within b (Shadow rect r blur color skip) = one_within b (Shadow rect r blur color skip)
parts_within b (Chain width color count) = lines_within (chain_of (joints_of b count) width color) (leb count 64)
parts_within b Unknown = one_within b Unknown

pub within : PartsWithin kind
within b = parts_within b (item_of b)

whole : (b : List ℕ) (pitch : ℕ) (clip : IRect) (px : List ℕ) → drawn_all pitch clip (kind.parts b) px ≡ drawing.shape_on kind pitch clip b px
unfolding drawing.shape_on
whole b pitch clip px = parts_drawn pitch clip px b (item_of b)

pub lawful : Lawful format
lawful = record { sound = sound; tall = tall; numbered = numbered; whole = whole }

-- the bytes of the item that some bytes are
pub own : (b : List ℕ) (i : Item) → bytes_of (drawn_as b i) ≡ b
unfolding drawn_as
own b (Push rect) = refl
own b Pop = refl
own b (Fill rect r paint) = refl
own b (Stroke rect r width color) = refl
own b (Line p q width color) = refl
own b (Poly paint count) = refl
own b (Shadow rect r blur color skip) = refl
own b (Chain width color count) = refl
own b Unknown = refl

-- the items that some bytes are are the same where the bytes are
module _ (a b : List ℕ) where
  apart : (i j : drawing.Item (List ℕ)) → bytes_of i ≡ a → bytes_of j ≡ b → same_bytes a b ≡ false → same_item i j ≡ false
  unfolding same_item
  apart (push p u) (push q v) r s e = rw (r, s, e)
  apart (push p u) (pop q) r s e = refl
  apart (push p u) (shape q) r s e = refl
  apart (pop p) (push q v) r s e = refl
  apart (pop p) (pop q) r s e = rw (r, s) e
  apart (pop p) (shape q) r s e = refl
  apart (shape p) (push q v) r s e = refl
  apart (shape p) (pop q) r s e = refl
  apart (shape p) (shape q) r s e = rw (r, s) e

  pub same_in : same_item (item_in a) (item_in b) ≡ same_bytes a b
  same_in =
      split (same_bytes a b) (λ t. same_bytes a b ≡ t → same_item (item_in a) (item_in b) ≡ t)
      (λ e f. ap (λ (c : List ℕ). same_item (item_in a) (item_in c)) (sym (bytes_equal a b e)) ∙ item_same (item_in a))
      (λ e f. apart (item_in a) (item_in b) (own a (item_of a)) (own b (item_of b)) e)
      refl
