-- What is known of the items of an accepted sheet, for whoever draws them. Assumes nothing.
use Prim.Native.Nat.{ℕ, ◌+◌, ◌-◌, ◌*◌, ◌<◌, ◌≤◌}
use mathlib.Core.Path.{◌≡◌, refl, sym, ◌∙◌}
use mathlib.Core.Bool.{Bool, true, false, cond, ◌&&◌}
use mathlib.Core.List.{List}
use native.Mathlib.Omega.{arith}
use lib.Dec.{ltb, leb, eqb}
use borrow.Author.Tests.{leb-true, le-leb, lt-ltb}
use Rattle.geom.specs.Plane.{float_ok, pt_ok, rect_ok}
use Rattle.geom.proofs.Bools.{and_left, and_right, and_both}
use Rattle.paints.specs.Paints.{paint_ok}
use Rattle.sheet.specs.Bytes.{byte_at, float_at, float_ok_at, floats, zeros}
use Rattle.sheet.specs.Kinds.{kind_at, points_at, layout_at, paint_layout, paint_bytes_ok, bytes_ok, paint_floats_ok, floats_ok, depth_after}
use Rattle.sheet.specs.Check.{bytes_at}
use Rattle.sheet.proofs.Places.{each}
use Rattle.sheet.proofs.Accepted.{AcceptedItem, depth_before, kind_known, few_points, push_room}
use Rattle.items.specs.Items.{read_pt, read_rect, read_paint, read_fill, read_stroke, read_line, read_poly, read_shadow, read_chain, read_item, item_of}
use Rattle.sheet.proofs.Local.{least, kind_same, points_same, bytes_same, floats_same_item}
use Rattle.items.specs.declared.Item.{Item}
use Rattle.items.specs.declared.Item.TheVariants.{Push, Pop, Fill, Stroke, Line, Poly, Shadow, Chain, Unknown}

-- what drawing an item asks of it and its own bytes where `depth` clips are saved: floats in range, room for a push, at most 64 points
unfoldable pub item_ok : List ℕ → ℕ → Item → Bool
item_ok own depth (Push rect) = rect_ok rect && ltb depth 16
item_ok own depth Pop = true
item_ok own depth (Fill rect r paint) = rect_ok rect && float_ok r && paint_ok paint
item_ok own depth (Stroke rect r width color) = rect_ok rect && float_ok r && float_ok width
item_ok own depth (Line a b width color) = pt_ok a && pt_ok b && float_ok width
item_ok own depth (Poly paint count) = leb count 64 && floats own 32 (2 * count) && paint_ok paint
item_ok own depth (Shadow rect r blur color skip) = rect_ok rect && float_ok r && float_ok blur
item_ok own depth (Chain width color count) = leb count 64 && floats own 12 (2 * count) && float_ok width
item_ok own depth Unknown = false

-- ---- of n floats from p on that are in range

module _ (s : List ℕ) (p n : ℕ) (e : floats s p n ≡ true) where
  -- the one at q
  float_ok_lem : (i q : ℕ) → i < n → p + 4 * i ≡ q → float_ok (float_at s q) ≡ true
  float_ok_lem i q h r = rw r at (each (float_ok_at s) 4 p n i e h)

  -- the point at q
  pt_ok_lem : (i q : ℕ) → i + 1 < n → p + 4 * i ≡ q → pt_ok (read_pt s q) ≡ true
  unfolding pt_ok
  pt_ok_lem i q h r = and_both (float_ok_lem i q (omega arith) r) (float_ok_lem (i + 1) (q + 4) h (omega arith))

  -- the rectangle at p
  rect_ok_lem : 4 ≤ n → rect_ok (read_rect s p) ≡ true
  unfolding rect_ok
  rect_ok_lem h =
      and_both
      (and_both
      (and_both (float_ok_lem 0 p (omega arith) (omega arith)) (float_ok_lem 1 (p + 4) (omega arith) (omega arith)))
      (float_ok_lem 2 (p + 8) (omega arith) (omega arith)))
      (float_ok_lem 3 (p + 12) (omega arith) (omega arith))

-- a paint that passes 5 and 6
pub paint_ok_lem : (s : List ℕ) (p : ℕ) → paint_bytes_ok s p ≡ true → paint_floats_ok s p ≡ true → paint_ok (read_paint s p) ≡ true
unfolding paint_bytes_ok paint_floats_ok read_paint paint_ok
paint_ok_lem s p b f =
    let kind = byte_at s p in
    let known = and_left _ (zeros s (p + (paint_layout kind).zero) (paint_layout kind).zeros) b in
    let low : kind ≤ 3 = leb-true _ _ (and_left (leb kind 3) (zeros s (p + 1) 3) known) in
    least 0 kind (omega arith) (λ k. simp k)
    (λ h0. least 1 kind h0 (λ k. simp k (two (simp k at f)))
    (λ h1. least 2 kind h1 (λ k. simp k (four (simp k at f)))
    (λ h2. let k : kind ≡ 3 = omega arith in simp k (three (simp k at f)))))
  where
    two : floats s (p + 12) 2 ≡ true → float_ok (float_at s (p + 12)) && float_ok (float_at s (p + 16)) ≡ true
    two e = and_both (float_ok_lem s (p + 12) 2 e 0 (p + 12) (omega arith) (omega arith)) (float_ok_lem s (p + 12) 2 e 1 (p + 16) (omega arith) (omega arith))

    three : floats s (p + 12) 3 ≡ true → pt_ok (read_pt s (p + 12)) && float_ok (float_at s (p + 20)) ≡ true
    three e = and_both (pt_ok_lem s (p + 12) 3 e 0 (p + 12) (omega arith) (omega arith)) (float_ok_lem s (p + 12) 3 e 2 (p + 20) (omega arith) (omega arith))

    four : floats s (p + 12) 4 ≡ true → pt_ok (read_pt s (p + 12)) && pt_ok (read_pt s (p + 20)) ≡ true
    four e = and_both (pt_ok_lem s (p + 12) 4 e 0 (p + 12) (omega arith) (omega arith)) (pt_ok_lem s (p + 12) 4 e 2 (p + 20) (omega arith) (omega arith))

-- ---- items

-- an item's rectangle and two floats after it
rect_two : (s : List ℕ) → floats s 4 6 ≡ true
    → rect_ok (read_rect s 4) && float_ok (float_at s 20) && float_ok (float_at s 24) ≡ true
rect_two s e =
    and_both
    (and_both (rect_ok_lem s 4 6 e (omega arith)) (float_ok_lem s 4 6 e 4 20 (omega arith) (omega arith)))
    (float_ok_lem s 4 6 e 5 24 (omega arith) (omega arith))

module _ (s : List ℕ) (b : bytes_ok s 0 ≡ true) (f : floats_ok s 0 ≡ true) where
  abbrev Ok : ℕ → Type 0
  Ok depth = item_ok s depth (item_of s) ≡ true

  push_ok : (depth : ℕ) → kind_at s 0 ≡ 1 → depth < 16 → Ok depth
  unfolding item_ok read_item floats_ok layout_at
  push_ok depth k h = simp k (and_both (rect_ok_lem s 4 4 (and_left _ true (and_left _ true (simp k at f))) (omega arith)) (lt-ltb depth 16 h))

  pop_ok : (depth : ℕ) → kind_at s 0 ≡ 2 → Ok depth
  unfolding item_ok read_item
  pop_ok depth k = simp k

  fill_ok : (depth : ℕ) → kind_at s 0 ≡ 3 → Ok depth
  unfolding item_ok read_item bytes_ok floats_ok layout_at
  fill_ok depth k =
      let own = and_left _ true (and_left _ (paint_floats_ok s 24) (simp k at f)) in
      let bytes = and_right (zeros s 1 3 && true) (paint_bytes_ok s 24) (simp k at b) in
      let inks = and_right (floats s 4 5 && true) (paint_floats_ok s 24) (simp k at f) in
      simp k
      (and_both
      (and_both (rect_ok_lem s 4 5 own (omega arith)) (float_ok_lem s 4 5 own 4 20 (omega arith) (omega arith)))
      (paint_ok_lem s 24 bytes inks))

  stroke_ok_lem : (depth : ℕ) → kind_at s 0 ≡ 4 → Ok depth
  unfolding item_ok read_item floats_ok layout_at
  stroke_ok_lem depth k = simp k (rect_two s (and_left _ true (and_left _ true (simp k at f))))

  line_ok_lem : (depth : ℕ) → kind_at s 0 ≡ 5 → Ok depth
  unfolding item_ok read_item floats_ok layout_at
  line_ok_lem depth k =
      let own = and_left _ true (and_left _ true (simp k at f)) in
      simp k
      (and_both
      (and_both (pt_ok_lem s 4 5 own 0 4 (omega arith) (omega arith)) (pt_ok_lem s 4 5 own 2 12 (omega arith) (omega arith)))
      (float_ok_lem s 4 5 own 4 20 (omega arith) (omega arith)))

  poly_ok_lem : (depth : ℕ) → kind_at s 0 ≡ 6 → points_at s 0 ≤ 64 → Ok depth
  unfolding item_ok read_item bytes_ok floats_ok layout_at
  poly_ok_lem depth k h =
      let own = and_left _ true (and_left _ (paint_floats_ok s 4) (simp k at f)) in
      let bytes = and_right (zeros s 1 1 && true) (paint_bytes_ok s 4) (simp k at b) in
      let inks = and_right (floats s 32 (2 * points_at s 0) && true) (paint_floats_ok s 4) (simp k at f) in
      simp k (and_both (and_both (le-leb (points_at s 0) 64 h) own) (paint_ok_lem s 4 bytes inks))

  shadow_ok_lem : (depth : ℕ) → kind_at s 0 ≡ 7 → Ok depth
  unfolding item_ok read_item floats_ok layout_at
  shadow_ok_lem depth k = simp k (rect_two s (and_left _ true (and_left _ true (simp k at f))))

  chain_ok : (depth : ℕ) → kind_at s 0 ≡ 8 → points_at s 0 ≤ 64 → Ok depth
  unfolding item_ok read_item floats_ok layout_at
  chain_ok depth k h =
      let own = and_left _ true (simp k at f) in
      simp k
      (and_both (and_both (le-leb (points_at s 0) 64 h) (and_left _ (float_ok_at s 4) own)) (and_right (floats s 12 (2 * points_at s 0)) (float_ok_at s 4) own))

-- an item of an accepted sheet
pub item_ok_lem : (s : List ℕ) (k : ℕ) → AcceptedItem s k → item_ok (bytes_at s k) (depth_before s k) (item_of (bytes_at s k)) ≡ true
item_ok_lem s k a =
    let own = bytes_at s k in
    let kind = kind_at own 0 in
    let d = depth_before s k in
    let same = kind_same s k a in
    let b : bytes_ok own 0 ≡ true = bytes_same s k a ∙ a.bytes in
    let f : floats_ok own 0 ≡ true = floats_same_item s k a ∙ a.floats in
    let low : 1 ≤ kind = rw same (kind_known s k a).0 in
    let high : kind ≤ 8 = rw same (kind_known s k a).1 in
    least 1 kind low (λ e. push_ok own b f d e (push_room s k a (sym same ∙ e)))
    (λ h1. least 2 kind h1 (λ e. pop_ok own b f d e)
    (λ h2. least 3 kind h2 (λ e. fill_ok own b f d e)
    (λ h3. least 4 kind h3 (λ e. stroke_ok_lem own b f d e)
    (λ h4. least 5 kind h4 (λ e. line_ok_lem own b f d e)
    (λ h5. least 6 kind h5 (λ e. poly_ok_lem own b f d e (rw (points_same s k a) (few_points s k a (simp (sym same ∙ e)))))
    (λ h6. least 7 kind h6 (λ e. shadow_ok_lem own b f d e)
    (λ h7. let e : kind ≡ 8 = omega arith in chain_ok own b f d e (rw (points_same s k a) (few_points s k a (simp (sym same ∙ e)))))))))))

-- how many clips are saved after an item, by its value
abbrev pub saved_after : Item → ℕ → ℕ
saved_after (Push rect) depth = depth + 1
saved_after Pop depth = depth - 1
saved_after (Fill rect r paint) depth = depth
saved_after (Stroke rect r width color) depth = depth
saved_after (Line a b width color) depth = depth
saved_after (Poly paint count) depth = depth
saved_after (Shadow rect r blur color skip) depth = depth
saved_after (Chain width color count) depth = depth
saved_after Unknown depth = depth

pub saved_after_lem : (s : List ℕ) (at depth : ℕ) → depth_after (kind_at s at) depth ≡ saved_after (read_item s at) depth
unfolding read_item
saved_after_lem s at depth =
    let is : ℕ → Bool = λ n. eqb (kind_at s at) n in
    go (is 1) (is 2) (is 3) (is 4) (is 5) (is 6) (is 7) (is 8)
  where
    go : (a b c d e f g h : Bool)
        → cond a (depth + 1) (cond b (depth - 1) depth)
        ≡ saved_after
        (cond a (Push (read_rect s (at + 4)))
        (cond b Pop
        (cond c (read_fill s at)
        (cond d (read_stroke s at)
        (cond e (read_line s at) (cond f (read_poly s at) (cond g (read_shadow s at) (cond h (read_chain s at) Unknown))))))))
        depth
    go true b c d e f g h = refl
    go false true c d e f g h = refl
    go false false true d e f g h = refl
    go false false false true e f g h = refl
    go false false false false true f g h = refl
    go false false false false false true g h = refl
    go false false false false false false true h = refl
    go false false false false false false false true = refl
    go false false false false false false false false = refl
