-- The state after an item that is in order: it is sound, and its clips are redraw's. Assumes nothing.
use Prim.Native.Nat.{ℕ, ◌-◌}
use mathlib.Core.Path.{◌≡◌, refl, sym}
use mathlib.Core.Bool.{true, cond, ◌&&◌}
use mathlib.Core.List.{List}
use native.Mathlib.Omega.{arith}
use borrow.Author.Tests.{eqb-true, ltb-true}
use lib.Dec.{eqb, ltb}
use Rattle.geom.specs.Plane.{rect_ok, outer_of}
use Rattle.geom.specs.declared.Rect.{Rect}
use Rattle.geom.proofs.Bools.{and_left, and_right, split}
use Rattle.gfx.specs.State.{pushed, unsaved, popped}
use Rattle.gfx.specs.Calls.{answer, push_number}
use Rattle.gfx.specs.declared.Canvas.{Canvas}
use Rattle.gfx.specs.Sound.{Sound}
use Rattle.gfx.proofs.Kept.{sound_state, push_clip_sound, pop_sound}
use Rattle.items.specs.Format.{drawn_as}
use Rattle.items.specs.declared.Item.{Item}
use Rattle.items.specs.declared.Item.TheVariants.{Push, Pop, Fill, Stroke, Line, Poly, Shadow, Chain, Unknown}
use Rattle.items.proofs.Sound.{item_ok, saved_after}
use Rattle.redraw.specs.Drawing as drawing
use Rattle.clips.specs.States.{state_after}
use Rattle.clips.proofs.Clips.{clips_of, clips_pushed, clips_popped}

-- what is known of a state after an item
pub record After (b : List ℕ) (i : Item) (c r : Canvas) : Type 0 where
  pub sound : Sound r
  pub wide : r.w ≡ c.w
  pub high : r.h ≡ c.h
  pub row : r.pitch ≡ c.pitch
  pub depth : r.depth ≡ saved_after i c.depth
  pub clips : clips_of r ≡ drawing.after (drawn_as b i) (clips_of c)

width_kept : (c : Canvas) → (unsaved c).w ≡ c.w
unfolding unsaved
width_kept c = refl

height_kept : (c : Canvas) → (unsaved c).h ≡ c.h
unfolding unsaved
height_kept c = refl

pitch_kept : (c : Canvas) → (unsaved c).pitch ≡ c.pitch
unfolding unsaved
pitch_kept c = refl

module _ (b : List ℕ) (c : Canvas) (s : Sound c) where
  push_accepted : (rect : Rect) → rect_ok rect && ltb c.depth 16 ≡ true → push_number c rect ≡ 0
  unfolding push_number
  push_accepted rect e = rw (sound_state s, and_left (rect_ok rect) _ e, and_right (rect_ok rect) (ltb c.depth 16) e)

  after_push : (rect : Rect) → rect_ok rect && ltb c.depth 16 ≡ true → After b (Push rect) c (state_after (Push rect) c)
  unfolding state_after answer drawn_as pushed
  after_push rect e =
      let n = push_accepted rect e in
      rw (n)
      (record {
        sound = push_clip_sound c rect s n;
        wide = refl;
        high = refl;
        row = refl;
        depth = refl;
        clips = clips_pushed c b (outer_of rect) (omega (arith, s.sized, ltb-true c.depth 16 (and_right (rect_ok rect) (ltb c.depth 16) e)));
      })

  pop_kept : {A : Type 0} (f : Canvas → A) → f (unsaved c) ≡ f c → f (popped c) ≡ f c
  unfolding popped
  pop_kept f e = split (eqb c.depth 0) (λ t. f (cond t c (unsaved c)) ≡ f c) (λ z. refl) (λ z. e)

  pop_depth : (popped c).depth ≡ c.depth - 1
  unfolding popped unsaved
  pop_depth = split (eqb c.depth 0) (λ t. (cond t c (unsaved c)).depth ≡ c.depth - 1) (λ z. omega (arith, eqb-true c.depth 0 z)) (λ z. refl)

  after_pop : After b Pop c (state_after Pop c)
  unfolding state_after answer drawn_as
  after_pop =
      rw (sound_state s)
      (record {
        sound = pop_sound c s;
        wide = pop_kept (λ (d : Canvas). d.w) (width_kept c);
        high = pop_kept (λ (d : Canvas). d.h) (height_kept c);
        row = pop_kept (λ (d : Canvas). d.pitch) (pitch_kept c);
        depth = pop_depth;
        clips = clips_popped c b;
      })

  after_same : (i : Item) → drawing.after (drawn_as b i) (clips_of c) ≡ clips_of c → saved_after i c.depth ≡ c.depth → After b i c c
  after_same i e d = record { sound = s; wide = refl; high = refl; row = refl; depth = sym d; clips = sym e }

  pub after_item : (i : Item) → item_ok b c.depth i ≡ true → After b i c (state_after i c)
  unfolding item_ok state_after drawn_as drawing.after
  after_item (Push rect) e = after_push rect e
  after_item Pop e = after_pop
  after_item (Fill rect r paint) e = after_same (Fill rect r paint) refl refl
  after_item (Stroke rect r width color) e = after_same (Stroke rect r width color) refl refl
  after_item (Line p q width color) e = after_same (Line p q width color) refl refl
  after_item (Poly paint count) e = after_same (Poly paint count) refl refl
  after_item (Shadow rect r blur color skip) e = after_same (Shadow rect r blur color skip) refl refl
  after_item (Chain width color count) e = after_same (Chain width color count) refl refl
  after_item Unknown e = after_same Unknown refl refl
