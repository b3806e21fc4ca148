-- The ceiling on patch work, over any format: a step alters no more pixels than lie in the box, and none where its reach, cut by the clip of a
-- painting from nothing, does not meet the box.
-- Assumes nothing.
use mathlib.Core.Bool.{Bool, true, false, cond, ◌&&◌, ◌||◌, and_assoc}
use mathlib.Core.List.{List, [], ◌∷◌}
use mathlib.Core.Path.{◌≡◌, refl, sym, ap, ◌∙◌}
use Prim.Native.Nat.{ℕ, suc, ◌+◌, ◌-◌, ◌*◌, ◌/◌, ◌%◌, ◌≤◌}
use native.Mathlib.Nat.{add-zero, add-mul, zero-mul, mul-zero, zero-add}
use native.Mathlib.Omega.{arith}
use lib.Dec.{eqb}
use lib.IntN.{ℤ, pos, negsuc}
use lib.Signed.{le_z}
use lib.ListN.{length}
use borrow.Author.Tests.{eq-eqb}
use Rattle.geom.specs.declared.IRect.{IRect}
use Rattle.geom.specs.Int.{up}
use Rattle.geom.specs.Box.{no_box, inside, meet, empty, hull, Holds}
use Rattle.geom.proofs.Int.{order_z}
use Rattle.geom.proofs.Bools.{split}
use Rattle.geom.proofs.Boxes.{in_meet, in_empty, meet_left, edges, within_nat, hull_in_frame, hull_smallest}
use Rattle.draw.specs.Draw.{each_at, onto, meets, drawn, differ}
use Rattle.draw.specs.Parts.{Part, alters_all}
use Rattle.draw.specs.Areas.{area_of}
use Rattle.draw.proofs.Counts.{one_most}
use Rattle.draw.proofs.Clips as Clips
use Rattle.draw.proofs.Clips.{in_area_lem}
use Rattle.redraw.specs.declared.Reply.{Reply}
use Rattle.redraw.specs.Drawing.{Item, push, pop, shape, Clips, only, after, Kind, shape_on, item_on, ground_in}
use Rattle.redraw.specs.Counts.{item_alters, items_alter, steps_of, grounds_of}
use Rattle.redraw.specs.Sums.{count_to}
use Rattle.redraw.specs.Sheet.{Format, Sheet, Outcome, refuses, draws, canvas, patching, answer, accepted}
use Rattle.redraw.specs.Calls.{Patched}
use Rattle.redraw.specs.Ceiling.{box_area, parts_meeting, shapes_meeting, read_meeting, PatchCeiling}
use Rattle.redraw.proofs.Sums.{sum_same, sum_none, sum_first, count_area}
use Rattle.redraw.proofs.Drawn as Drawn
use Rattle.redraw.proofs.Drawn.{Agree, agree_after}
use Rattle.redraw.proofs.Items.{none, Out, out_after, length_shape, length_ground}
use Rattle.redraw.proofs.Lists.{patch_accepted}

-- ---- a change at the places of a set s alters no more words than a set t has places that holds them

place_most : (p q : ℕ) (t u : Bool) → (t ≡ true → u ≡ true) → cond (eqb (cond t q p) p) 0 1 ≤ cond u 1 0
place_most p q true u h = rw (h refl) (one_most (eqb q p))
place_most p q false u h = rw (eq-eqb p p refl) (omega arith)

each_most : (s : ℕ → Bool) (f : ℕ → ℕ → ℕ) (t : ℕ → Bool) (i : ℕ) (px : List ℕ) → ((k : ℕ) → s (i + k) ≡ true → t k ≡ true)
    → differ px (each_at (λ k p. cond (s k) (f k p) p) i px) ≤ count_to t (length px)
unfolding each_at differ
each_most s f t i [] h = omega arith
each_most s f t i (p ∷ ps) h =
    let here = place_most p (f i p) (s i) (t 0) (rw add-zero at (h 0)) in
    let rest = each_most s f (λ k. t (1 + k)) (suc i) ps (λ k e. let shift : i + (1 + k) ≡ suc i + k = omega arith in h (1 + k) (rw shift e)) in
    let sum : count_to t (length (p ∷ ps)) ≡ cond (t 0) 1 0 + count_to (λ k. t (1 + k)) (length ps) = sum_first (λ k. cond (t k) 1 0) (length ps) in
    omega (arith, here, rest, sum)

onto_most : (s : ℕ → Bool) (f : ℕ → ℕ → ℕ) (t : ℕ → Bool) (px : List ℕ) → ((k : ℕ) → s k ≡ true → t k ≡ true)
    → differ px (each_at (λ k p. cond (s k) (f k p) p) 0 px) ≤ count_to t (length px)
onto_most s f t px h = each_most s f t 0 px (λ k e. h k (rw zero-add at e))

count_none : (n : ℕ) → count_to (λ k. false) n ≡ 0
count_none n = sum_none _ n (λ i h. refl)

-- ---- one part, the parts of a shape, the items: a box that has `pixels` of n words, in rows of `pitch`

module _ (pitch n pixels : ℕ) (box : IRect) (counted : count_to (λ i. inside box (pos (i % pitch)) (pos (i / pitch))) n ≡ pixels) where
  -- a clip c that is cut to the box, and the clip d in its place when the sheet is painted from nothing: c has the pixels of d in the box
  abbrev Cut : IRect → IRect → Type 0
  Cut c d = (x y : ℕ) → inside c (pos x) (pos y) ≡ inside box (pos x) (pos y) && inside d (pos x) (pos y)

  -- what c lets through of a reach lies in the box and in the reach cut by d, and no other pixel does
  in_cut : (c d reach : IRect) → Cut c d → (x y : ℕ) → meets c reach x y ≡ inside (meet box (meet d reach)) (pos x) (pos y)
  unfolding meets
  in_cut c d reach u x y =
      rw (u x y, in_meet box (meet d reach) (pos x) (pos y), in_meet d reach (pos x) (pos y))
      (and_assoc (inside box (pos x) (pos y)) (inside d (pos x) (pos y)) (inside reach (pos x) (pos y)))

  -- a part alters no pixel where its reach, cut by d, does not meet the box, and else no more than lie in it
  part_most : (a : Part) (c d : IRect) (px : List ℕ) → length px ≡ n → Cut c d
      → differ px (drawn pitch c a.reach a.ink px) ≤ cond (empty (meet box (meet d a.reach))) 0 1 * pixels
  unfolding drawn onto
  part_most a c d px l u =
      split (empty both) (λ t. differ px (drawn pitch c a.reach a.ink px) ≤ cond t 0 1 * pixels)
      (λ e. let most = altered (λ k. false) (λ k q. sym (in_empty both (pos (k % pitch)) (pos (k / pitch)) e) ∙ q) in
      omega (arith, most, count_none (length px)))
      (λ e. let most = altered (λ k. inside box (pos (k % pitch)) (pos (k / pitch))) (λ k q. (meet_left box (meet d a.reach)).holds (pos (k % pitch)) (pos (k / pitch)) q) in
      omega (arith, rw l at most, counted))
    where
      both : IRect
      both = meet box (meet d a.reach)

      altered : (t : ℕ → Bool) → ((k : ℕ) → inside both (pos (k % pitch)) (pos (k / pitch)) ≡ true → t k ≡ true)
          → differ px (drawn pitch c a.reach a.ink px) ≤ count_to t (length px)
      altered t h =
          onto_most (λ i. meets c a.reach (i % pitch) (i / pitch)) (λ i p. a.ink (i % pitch) (i / pitch) p) t px
          (λ k q. h k (sym (in_cut c d a.reach u (k % pitch) (k / pitch)) ∙ q))

  parts_most : (l : List Part) (c d : IRect) (px : List ℕ) → length px ≡ n → Cut c d → alters_all pitch c l px ≤ parts_meeting box d l * pixels
  unfolding alters_all parts_meeting
  parts_most [] c d px e u = omega arith
  parts_most (a ∷ l) c d px e u =
      let next = drawn pitch c a.reach a.ink px in
      let here = part_most a c d px e u in
      let rest = parts_most l c d next (Clips.length_shape pitch c a.reach a.ink px ∙ e) u in
      omega (arith, here, rest, add-mul (cond (empty (meet box (meet d a.reach))) 0 1) (parts_meeting box d l) pixels)

  module _ (K : Kind) where
    -- the same of all clips, in force and saved: c has no pixel outside the box, and agrees with d inside it
    record Under (c d : Clips) : Type 0 where
      out : (x y : ℕ) → inside box (pos x) (pos y) ≡ false → Out K x y c
      like : (x y : ℕ) → inside box (pos x) (pos y) ≡ true → Agree K x y c d

    under_after : (i : Item K.Shape) (c d : Clips) → Under c d → Under (after i c) (after i d)
    under_after i c d u = record { out = λ x y o. out_after K x y i c (u.out x y o); like = λ x y o. agree_after K x y i c d (u.like x y o) }

    under_cut : (c d : Clips) → Under c d → Cut c.clip d.clip
    under_cut c d u x y = go (inside box (pos x) (pos y)) refl
      where
        go : (t : Bool) → inside box (pos x) (pos y) ≡ t → inside c.clip (pos x) (pos y) ≡ t && inside d.clip (pos x) (pos y)
        go true q = (u.like x y q).clips
        go false q = (u.out x y q).clips

    items_most : (items : List (Item K.Shape)) (c d : Clips) (px : List ℕ) → length px ≡ n → Under c d
        → items_alter K pitch items c px ≤ shapes_meeting K box items d * pixels
    unfolding items_alter item_alters item_on shapes_meeting after
    items_most [] c d px e u = omega arith
    items_most (push s b ∷ r) c d px e u = let rest = items_most r _ _ px e (under_after (push s b) c d u) in omega (arith, rest)
    items_most (pop s ∷ r) c d px e u = let rest = items_most r _ _ px e (under_after (pop s) c d u) in omega (arith, rest)
    items_most (shape a ∷ r) c d px e u =
        let here = parts_most (K.parts a) c.clip d.clip px e (under_cut c d u) in
        let rest = items_most r c d (shape_on K pitch c.clip a px) (length_shape K pitch c.clip a px ∙ e) u in
        omega (arith, here, rest, add-mul (parts_meeting box d.clip (K.parts a)) (shapes_meeting K box r d) pixels)

  ground_most : (ground_pixel : ℕ) (px : List ℕ) → length px ≡ n → differ px (ground_in pitch box ground_pixel px) ≤ pixels
  unfolding ground_in
  ground_most ground_pixel px e =
      let inBox : ℕ → Bool = λ i. inside box (pos (i % pitch)) (pos (i / pitch)) in
      let most = onto_most inBox (λ i p. ground_pixel) inBox px (λ k q. q) in
      omega (arith, rw e at most, counted)

-- ---- the box of a patch: four zeros, or within the canvas

-- a box lies within the first w columns and h rows
abbrev BoxFits : ℕ → ℕ → IRect → Type 0
BoxFits w h b = (up b.x0 ≤ up b.x1) × (up b.x1 ≤ w) × (up b.y0 ≤ up b.y1) × (up b.y1 ≤ h)

-- in rows of `pitch` words, that have room for w
count_box : (pitch w h : ℕ) (b : IRect) → w ≤ pitch → BoxFits w h b
    → count_to (λ i. inside b (pos (i % pitch)) (pos (i / pitch))) (pitch * h) ≡ (up b.x1 - up b.x0) * (up b.y1 - up b.y0)
count_box pitch w h b room f =
    sum_same _ _ (pitch * h) (λ i k. ap (λ (t : Bool). cond t 1 0) (in_area_lem b (i % pitch) (i / pitch)))
    ∙ count_area pitch h (area_of b) f.0 (omega (arith, f.1, room)) f.2 f.3

hull_fits : {Shape : Type 0} (s : Sheet Shape) (bs : List IRect) → BoxFits s.w s.h (hull (canvas s) bs)
unfolding canvas no_box
hull_fits s bs = go (empty box) refl
  where
    box : IRect
    box = hull (canvas s) bs

    go : (t : Bool) → empty box ≡ t → BoxFits s.w s.h box
    go true e = rw ((hull_smallest (canvas s) bs).none e) (omega arith)
    go false e = let f = within_nat s.w s.h box (edges box e (canvas s) (hull_in_frame (canvas s) bs)) in omega (arith, f)

-- ---- a call that draws a sheet in a box

module _ (K : Kind) (pitch : ℕ) (s : Sheet K.Shape) (box : IRect) (fits : BoxFits s.w s.h box) (room : s.w ≤ pitch)
    (px : List ℕ) (long : length px ≡ pitch * s.h) where
  steps_most : Holds (canvas s) box → steps_of K pitch (draws s box) px ≤ shapes_meeting K box s.items (only (canvas s)) * box_area box
  unfolding steps_of
  steps_most h =
      items_most pitch (pitch * s.h) _ box (count_box pitch s.w s.h box room fits) K s.items (only box) (only (canvas s)) _
      (length_ground pitch box s.ground_pixel px ∙ long)
      (record {
        out = λ x y o. record { clips = o; saves = none };
        like = λ x y o. record { clips = o ∙ sym (h.holds (pos x) (pos y) o); saves = Drawn.none };
      })

  grounds_most : grounds_of K pitch (draws s box) px ≤ box_area box
  unfolding grounds_of
  grounds_most = ground_most pitch (pitch * s.h) _ box (count_box pitch s.w s.h box room fits) s.ground_pixel px long

-- ---- an empty box has no pixel

up_order : (a b : ℤ) → le_z a b ≡ true → up a ≤ up b
up_order (pos m) (pos n) e = omega order_z
up_order (pos m) (negsuc n) e = omega order_z
up_order (negsuc m) b e = omega arith

empty_area : (b : IRect) → empty b ≡ true → box_area b ≡ 0
unfolding empty
empty_area b e = go (le_z b.x1 b.x0) refl e
  where
    go : (t : Bool) → le_z b.x1 b.x0 ≡ t → t || le_z b.y1 b.y0 ≡ true → box_area b ≡ 0
    go true q e = let none : up b.x1 - up b.x0 ≡ 0 = omega (arith, up_order b.x1 b.x0 q) in rw (none) (zero-mul _)
    go false q e = let none : up b.y1 - up b.y0 ≡ 0 = omega (arith, up_order b.y1 b.y0 e) in rw (none) (mul-zero _)

least : {m : ℕ} → m ≤ 0 → m ≡ 0
least h = omega arith

-- ---- a patch

module _ {Word : Type 0} (zero_word : Word) (F : Format) where
  module _ (old new : List ℕ) (pitch : ℕ) (px : List ℕ) (scratch : List Word) (r : Reply) (px' : List ℕ) (scratch' : List Word)
      (did : Patched zero_word F old new pitch px scratch r px' scratch') where
    abbrev Bounded : Type 0
    Bounded =
        (r.steps ≤ read_meeting F.kind r.answer.area (F.reading new) * box_area r.answer.area) × (r.grounded ≤ box_area r.answer.area)

    bounded : Bounded
    unfolding steps_of grounds_of answer accepted read_meeting
    bounded = go (patching F old new pitch (length px) (length scratch)) refl
      where
        go : (o : Outcome F.kind.Shape) → patching F old new pitch (length px) (length scratch) ≡ o → Bounded
        go (refuses n k) e = rw (did.steps, did.grounds, e) (omega arith, omega arith)
        go (draws t b) e =
            let p = patch_accepted F old new pitch (length px) (length scratch) (ap accepted e) in
            rw (did.answers, did.steps, did.grounds, p.is, p.reads_to) (
              steps_most F.kind pitch p.to _ (hull_fits p.to _) p.lends.frame.rows.room px p.lends.frame.long
                  (hull_in_frame (canvas p.to) _),
              grounds_most F.kind pitch p.to _ (hull_fits p.to _) p.lends.frame.rows.room px p.lends.frame.long,
            )

  pub ceiling : PatchCeiling zero_word F
  ceiling old new pitch px scratch r px' scratch' did =
      let most = bounded old new pitch px scratch r px' scratch' did in
      record {
        shapes = most.0;
        grounds = most.1;
        none = λ e. let z = empty_area r.answer.area e in (least (rw (z, mul-zero) at most).0, least (rw z at most).1);
      }
