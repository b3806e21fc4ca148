-- A sheet without its dead shapes is painted where the whole one is, to the same pixels, and has no more to shed. Assumes nothing.
--     shed_by        by whether the first item stays
--     shed_on        in rows of any pitch, px is what all items leave
--     shed_steps     .. and as many steps alter a pixel
--     shed_fresh     the fresh painting is the same
--     shed_twice     nothing more can be shed
--     shed_served    a painting of it is accepted where one of the whole sheet is
--     shed_same      two that are accepted return and leave the same
--     shed_shown     px that shows the whole sheet shows it
use mathlib.Core.Bool.{Bool, true, false, cond, ◌&&◌}
use mathlib.Core.List.{List, [], ◌∷◌}
use mathlib.Core.Path.{◌≡◌, refl, sym, ap, ap₂, ◌∙◌}
use Prim.Native.Nat.{ℕ, ◌+◌, ◌*◌, ◌/◌, ◌%◌, ◌≤◌}
use native.Mathlib.Nat.{zero-add}
use native.Mathlib.Omega.{arith}
use borrow.Author.Tests.{not-false, le-leb}
use lib.IntN.{pos}
use lib.ListN.{length, get_or}
use Rattle.geom.specs.declared.IRect.{IRect}
use Rattle.geom.specs.Box.{inside, meet, empty, Holds, HoldsAll}
use Rattle.geom.proofs.Bools.{split, same_test, and_left, and_right, and_both}
use Rattle.geom.proofs.Boxes.{in_meet, in_empty}
use Rattle.draw.specs.Draw.{meets, drawn}
use Rattle.draw.specs.Parts.{Part, alters_all}
use Rattle.draw.proofs.Counts.{differ_same}
use Rattle.draw.proofs.Frame.{in_frame}
use Rattle.draw.proofs.Onto.{onto_none}
use Rattle.redraw.specs.declared.Answer.{Answer}
use Rattle.redraw.specs.declared.Reply.{Reply}
use Rattle.redraw.specs.Drawing.{Item, push, pop, shape, Clips, only, after, Kind, shape_on, item_on, items_on}
use Rattle.redraw.specs.Sheet.{Format, Sheet, Outcome, read, draws, canvas, lent_number, painting, answer, pixels, accepted, fresh}
use Rattle.redraw.specs.Counts.{item_alters, items_alter, steps_of, grounds_of}
use Rattle.redraw.specs.Calls.{Shown, Painted}
use Rattle.redraw.specs.Shed.{stays, shed, shed_of}
use Rattle.redraw.proofs.Lists.{Lends, paint_accepted, read_one}
use Rattle.redraw.proofs.Rules.{paint_draws}

-- ---- a reach of which the clip leaves nothing

module _ (pitch : ℕ) (clip reach : IRect) (e : empty (meet clip reach) ≡ true) where
  unseen_at : (b : IRect) → Holds reach b → (x y : ℕ) → meets clip b x y ≡ false
  unfolding meets
  unseen_at b h x y = same_test (inside clip (pos x) (pos y) && inside b (pos x) (pos y)) false there (λ z. cc)
    where
      there : (inside clip (pos x) (pos y) && inside b (pos x) (pos y)) ≡ true → false ≡ true
      there t =
          sym (in_empty (meet clip reach) (pos x) (pos y) e) ∙ in_meet clip reach (pos x) (pos y)
          ∙ and_both (and_left (inside clip (pos x) (pos y)) _ t) (h.holds (pos x) (pos y) (and_right (inside clip (pos x) (pos y)) _ t))

  -- what is drawn within it leaves px
  unseen : (b : IRect) → Holds reach b → (ink : ℕ → ℕ → ℕ → ℕ) (px : List ℕ) → px ≡ drawn pitch clip b ink px
  unfolding drawn
  unseen b h ink px = onto_none _ _ px (λ k l. unseen_at b h (k % pitch) (k / pitch))

  -- and parts that lie within it take no step that alters a pixel
  no_steps : (l : List Part) → HoldsAll reach (λ (a : Part). a.reach) l → (px : List ℕ) → alters_all pitch clip l px ≡ 0
  unfolding alters_all HoldsAll
  no_steps [] h px = refl
  no_steps (a ∷ l) h px = rw (sym (unseen a.reach h.0 a.ink px), differ_same px, no_steps l h.1 px)

-- ---- the items that stay

module _ (K : Kind) where
  pub shed_by : (P : List (Item K.Shape) → Type 0) (i : Item K.Shape) (r : List (Item K.Shape)) (c : Clips)
      → (stays K i c.clip ≡ true → P (i ∷ shed K r (after i c))) → (stays K i c.clip ≡ false → P (shed K r (after i c))) → P (shed K (i ∷ r) c)
  unfolding shed
  shed_by P i r c y n = split (stays K i c.clip) (λ t. P (cond t (i ∷ shed K r (after i c)) (shed K r (after i c)))) y n

  -- a shape goes where the clip leaves nothing of its reach
  goes : (clip : IRect) (a : K.Shape) → stays K (shape a) clip ≡ false → empty (meet clip (K.reach a)) ≡ true
  unfolding stays
  goes clip a e = not-false (empty (meet clip (K.reach a))) e

  -- then it leaves px
  goes_px : (pitch : ℕ) (clip : IRect) (a : K.Shape) (px : List ℕ) → stays K (shape a) clip ≡ false → px ≡ shape_on K pitch clip a px
  unfolding shape_on
  goes_px pitch clip a px e = unseen pitch clip (K.reach a) (goes clip a e) (K.reach a) (record { holds = λ x y t. t }) (K.ink a) px

  pub shed_on : (pitch : ℕ) (r : List (Item K.Shape)) (c : Clips) (px : List ℕ) → items_on K pitch (shed K r c) c px ≡ items_on K pitch r c px
  unfolding shed stays after items_on item_on
  shed_on pitch [] c px = refl
  shed_on pitch (push s b ∷ r) c px = shed_on pitch r _ px
  shed_on pitch (pop s ∷ r) c px = shed_on pitch r _ px
  shed_on pitch (shape a ∷ r) c px = go (stays K (shape a) c.clip) refl (shed_on pitch r c)
    where
      go : (t : Bool) → stays K (shape a) c.clip ≡ t → ((q : List ℕ) → items_on K pitch (shed K r c) c q ≡ items_on K pitch r c q)
          → items_on K pitch (cond t (shape a ∷ shed K r c) (shed K r c)) c px ≡ items_on K pitch r c (shape_on K pitch c.clip a px)
      go true e rest = rest _
      go false e rest = rest px ∙ ap (λ (q : List ℕ). items_on K pitch r c q) (goes_px pitch c.clip a px e)

  pub shed_fresh : (s : Sheet K.Shape) → fresh K (shed_of K s) ≡ fresh K s
  unfolding fresh canvas
  shed_fresh s = shed_on s.w s.items (only (canvas s)) _

  -- the clips at the items that stay are what they were, since no push and no pop goes
  pub shed_twice : (r : List (Item K.Shape)) (c : Clips) → shed K (shed K r c) c ≡ shed K r c
  unfolding shed stays after
  shed_twice [] c = refl
  shed_twice (push s b ∷ r) c = ap (λ (l : List (Item K.Shape)). push s b ∷ l) (shed_twice r _)
  shed_twice (pop s ∷ r) c = ap (λ (l : List (Item K.Shape)). pop s ∷ l) (shed_twice r _)
  shed_twice (shape a ∷ r) c = go (stays K (shape a) c.clip) refl (shed_twice r c)
    where
      go : (t : Bool) → stays K (shape a) c.clip ≡ t → shed K (shed K r c) c ≡ shed K r c
          → shed K (cond t (shape a ∷ shed K r c) (shed K r c)) c ≡ cond t (shape a ∷ shed K r c) (shed K r c)
      go true e rest = rw e (ap (λ (l : List (Item K.Shape)). shape a ∷ l) rest)
      go false e rest = rest

-- ---- their steps, where the parts of a shape lie within its reach

abbrev pub PartsWithin : Kind → Type 0
PartsWithin K = (a : K.Shape) → HoldsAll (K.reach a) (λ (p : Part). p.reach) (K.parts a)

module _ (K : Kind) (within : PartsWithin K) where
  pub shed_steps : (pitch : ℕ) (r : List (Item K.Shape)) (c : Clips) (px : List ℕ) → items_alter K pitch (shed K r c) c px ≡ items_alter K pitch r c px
  unfolding shed stays after items_alter item_alters item_on
  shed_steps pitch [] c px = refl
  shed_steps pitch (push s b ∷ r) c px = rw (shed_steps pitch r _ px)
  shed_steps pitch (pop s ∷ r) c px = rw (shed_steps pitch r _ px)
  shed_steps pitch (shape a ∷ r) c px = go (stays K (shape a) c.clip) refl (shed_steps pitch r c)
    where
      go : (t : Bool) → stays K (shape a) c.clip ≡ t → ((q : List ℕ) → items_alter K pitch (shed K r c) c q ≡ items_alter K pitch r c q)
          → items_alter K pitch (cond t (shape a ∷ shed K r c) (shed K r c)) c px
          ≡ alters_all pitch c.clip (K.parts a) px + items_alter K pitch r c (shape_on K pitch c.clip a px)
      go true e rest = ap (λ (n : ℕ). alters_all pitch c.clip (K.parts a) px + n) (rest _)
      go false e rest =
          let none = no_steps pitch c.clip (K.reach a) (goes K c.clip a e) (K.parts a) (within a) px in
          rw (none, sym (goes_px K pitch c.clip a px e), zero-add (items_alter K pitch r c px)) (rest px)

-- ---- every painting

-- an answer with its counts, by its parts
same_reply : (a b : Reply) → b.answer ≡ a.answer → b.steps ≡ a.steps → b.grounded ≡ a.grounded → b ≡ a
same_reply a b p q r =
    ap₂ (λ (x : Answer) (n : ℕ). record { answer = x; steps = n; grounded = b.grounded }) p q
    ∙ ap (λ (n : ℕ). record { answer = a.answer; steps = a.steps; grounded = n }) r

module _ (F : Format) where
  abbrev Whole : Type 0
  Whole = Sheet F.kind.Shape

  abbrev cut : Whole → Whole
  cut s = shed_of F.kind s

  -- bytes x that are read as a sheet, and y that are read as the same without its dead shapes
  module _ (s : Whole) (x y : List ℕ) (reads : F.reading x ≡ read s) (shed-reads : F.reading y ≡ read (cut s)) where
    abbrev all : Outcome F.kind.Shape
    all = draws s (canvas s)

    abbrev less : Outcome F.kind.Shape
    less = draws (cut s) (canvas (cut s))

    pub shed_served : F.need (cut s).items ≤ F.need s.items → (pitch pl sl : ℕ) → accepted (painting F x pitch pl sl) ≡ true
        → accepted (painting F y pitch pl sl) ≡ true
    unfolding accepted lent_number
    shed_served fewer pitch pl sl e =
        let p = paint_accepted F x pitch pl sl e in
        let l : Lends F s pitch pl sl = rw (read_one p.reads reads) at p.lends in
        let lent : lent_number F (cut s) pitch pl sl ≡ 0 = rw (in_frame l.frame, le-leb (F.need (cut s).items) sl (omega (arith, l.enough, fewer))) in
        ap accepted (paint_draws F y pitch pl sl (cut s) shed-reads lent)

    -- what an accepted painting of the one or the other draws
    draws_all : (pitch pl sl : ℕ) → accepted (painting F x pitch pl sl) ≡ true → painting F x pitch pl sl ≡ all
    draws_all pitch pl sl e =
        let p = paint_accepted F x pitch pl sl e in
        p.is ∙ ap (λ (t : Whole). draws t (canvas t)) (read_one p.reads reads)

    draws_less : (pitch pl sl : ℕ) → accepted (painting F y pitch pl sl) ≡ true → painting F y pitch pl sl ≡ less
    draws_less pitch pl sl e =
        let p = paint_accepted F y pitch pl sl e in
        p.is ∙ ap (λ (t : Whole). draws t (canvas t)) (read_one p.reads shed-reads)

    module _ (within : PartsWithin F.kind) (pitch : ℕ) (px : List ℕ) where
      same_pixels : pixels F.kind pitch less px ≡ pixels F.kind pitch all px
      unfolding pixels canvas
      same_pixels = shed_on F.kind pitch s.items (only (canvas s)) _

      same_steps : steps_of F.kind pitch less px ≡ steps_of F.kind pitch all px
      unfolding steps_of canvas
      same_steps = shed_steps F.kind within pitch s.items (only (canvas s)) _

      same_grounds : grounds_of F.kind pitch less px ≡ grounds_of F.kind pitch all px
      unfolding grounds_of canvas
      same_grounds = refl

      same_answer : answer less ≡ answer all
      unfolding answer canvas
      same_answer = refl

      pub shed_same : {Word : Type 0} (zero_word : Word) (u v : List Word) (a b : Reply) (px' qx : List ℕ) (u' v' : List Word)
          → Painted zero_word F x pitch px u a px' u' → Painted zero_word F y pitch px v b qx v'
          → accepted (painting F x pitch (length px) (length u)) ≡ true → accepted (painting F y pitch (length px) (length v)) ≡ true
          → (b ≡ a) × (qx ≡ px')
      shed_same zero_word u v a b px' qx u' v' p q e f =
          let from = draws_all pitch (length px) (length u) e in
          let to = draws_less pitch (length px) (length v) f in (
            same_reply a b (q.answers ∙ ap answer to ∙ same_answer ∙ sym (p.answers ∙ ap answer from))
                (q.steps ∙ ap (λ o. steps_of F.kind pitch o px) to ∙ same_steps ∙ sym (p.steps ∙ ap (λ o. steps_of F.kind pitch o px) from))
                (q.grounds ∙ ap (λ o. grounds_of F.kind pitch o px) to ∙ same_grounds ∙ sym (p.grounds ∙ ap (λ o. grounds_of F.kind pitch o px) from)),
            q.paints ∙ ap (λ o. pixels F.kind pitch o px) to ∙ same_pixels ∙ sym (p.paints ∙ ap (λ o. pixels F.kind pitch o px) from),
          )

    pub shed_shown : (pitch : ℕ) (before px : List ℕ) → Shown F pitch before x px → Shown F pitch before y px
    unfolding canvas
    shed_shown pitch before px t =
        let is : t.held ≡ s = read_one t.reads reads in
        record {
          held = cut s;
          reads = shed-reads;
          room = rw (← is) t.room;
          long = rw (← is) t.long;
          fresh_words = λ i h f. t.fresh_words i h (rw is f)
              ∙ rw is (ap (λ (l : List ℕ). get_or l (i / pitch * s.w + i % pitch) 0) (sym (shed_fresh F.kind s)));
          margin = λ i h f. t.margin i h (rw is f);
        }
