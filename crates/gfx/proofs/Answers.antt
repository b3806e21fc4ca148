-- What a call returns, for its contract: by the Result that its answer is made of, or by a number that is tested; n is the number's definition.
-- Assumes nothing.
use mathlib.Core.Path.{◌≡◌, refl, ap, ◌∙◌}
use mathlib.Core.Bool.{cond}
use mathlib.Core.List.{List}
use Prim.Native.Nat.{ℕ}
use lib.Dec.{eqb}
use borrow.Author.Tests.{eq-eqb, ne_eqb}
use Rattle.std.proofs.Common.{Ok, Err}
use Rattle.std.specs.Bool.{⊤}
use Rattle.std.specs.declared.result.Result.{Result}
use Rattle.std.specs.Result.{IsErrAnd, result_and}
use Rattle.geom.specs.declared.checks.Refusal.{Refusal}
use Rattle.geom.specs.Refusals.{code, number_of}
use Rattle.geom.proofs.Refusals.{code_some}
use Rattle.gfx.specs.Calls.{done_of, counted_of, boxed_of, pixel_of, answer, left, Called, CalledCounted, ShapeCalled, box_answer, pixel_answer}
use Rattle.gfx.specs.declared.Canvas.{Canvas}
use Rattle.gfx.specs.declared.Done.{Done}
use Rattle.gfx.specs.declared.Boxed.{Boxed}
use Rattle.geom.specs.declared.IRect.{IRect}
use Rattle.geom.specs.Box.{no_box}
use Rattle.draw.specs.Draw.{differ}
use Rattle.draw.specs.Areas.{Drew}
use Rattle.color.specs.declared.Pixel.{Pixel}

-- a number and what goes with it
done_is : {m n : ℕ} {a b : Canvas} → m ≡ n → a ≡ b → ◌≡◌ {A = Done} (record { number = m; canvas = a }) (record { number = n; canvas = b })
done_is e f = rw (e, f)

pixel_is : {m n a b : ℕ} → m ≡ n → a ≡ b → ◌≡◌ {A = Pixel} (record { number = m; value = a }) (record { number = n; value = b })
pixel_is e f = rw (e, f)

box_is : {m n : ℕ} {a b : IRect} → m ≡ n → a ≡ b → ◌≡◌ {A = Boxed} (record { number = m; area = a }) (record { number = n; area = b })
box_is e f = rw (e, f)

-- ---- a call whose answer is made of a result

-- a number that is a refusal's: what is given stays
kept_by : {n : ℕ} (x : Refusal) {A : Type 0} (next given : A) → code x ≡ n → given ≡ cond (eqb n 0) next given
kept_by x next given e = rw (← e, code_some x)

-- a `?` left with the refusal x
module _ (x : Refusal) {n : ℕ} (e : code x ≡ n) where
  pub stopped_state : (given next : Canvas) (r : Result Canvas Refusal) → IsErrAnd r (λ y. y ≡ x) → done_of given r ≡ answer n given next
  unfolding answer
  stopped_state given next (Err y) p = rw p (done_is e (kept_by x next given e))
  stopped_state given next (Ok c) p = absurd p

  pub stopped_call : {given next : Canvas} {px drawn : List ℕ} (r : Result Canvas Refusal) → IsErrAnd r (λ y. y ≡ x)
      → Called n given next px drawn (done_of given r) px
  unfolding left
  stopped_call {given} {next} {px} {drawn} r p = record { answers = stopped_state given next r p; paints = kept_by x drawn px e }

  pub stopped_pixel : (v : ℕ) (r : Result ℕ Refusal) → IsErrAnd r (λ y. y ≡ x) → pixel_of r ≡ pixel_answer n v
  unfolding pixel_answer
  stopped_pixel v (Err y) p = rw p (pixel_is e (kept_by x v 0 e))
  stopped_pixel v (Ok w) p = absurd p

  pub stopped_shape : {c : Canvas} {px drawn : List ℕ} {count : ℕ} (r : Result ℕ Refusal) → IsErrAnd r (λ y. y ≡ x)
      → CalledCounted n c px drawn count (counted_of c r) px
  unfolding left answer
  stopped_shape {c} {px} {drawn} {count} (Err y) p =
      rw p (record { called = record { answers = done_is e (kept_by x c c e); paints = kept_by x drawn px e }; counts = kept_by x count 0 e })
  stopped_shape (Ok k) p = absurd p

-- the number of the tests that passed
module _ {n : ℕ} (z : 0 ≡ n) where
  pub done_call : {given next : Canvas} {px drawn : List ℕ} → Called n given next px drawn (done_of given (Ok next)) drawn
  unfolding left answer
  done_call = rw (← z) (record { answers = refl; paints = refl })

  pub done_counted : {c : Canvas} {px drawn px' : List ℕ} {count k : ℕ} → px' ≡ drawn → k ≡ count
      → CalledCounted n c px drawn count (counted_of c (Ok k)) px'
  unfolding left answer
  done_counted p q = rw (← z, p, q) (record { called = record { answers = refl; paints = refl }; counts = refl })

  pub done_shape : {c : Canvas} {px drawn px' : List ℕ} {most k : ℕ} → Drew most px drawn k px'
      → ShapeCalled n c px drawn (counted_of c (Ok k)) px'
  done_shape {px = px} d = done_counted d.paints (d.counts ∙ ap (differ px) d.paints)

-- a box that is given where the tests pass
pub told_box : {n : ℕ} (b : IRect) (t : Result ⊤ Refusal) → number_of t ≡ n → boxed_of (result_and t (Ok b)) ≡ box_answer n b
unfolding box_answer
told_box b (Ok u) e = rw (← e)
told_box b (Err x) e = box_is e (kept_by x b no_box e)

-- ---- a call that tests its number

module _ {n m : ℕ} (e : m ≡ n) where
  module _ (k : m ≡ 0 → ⊥) where
    -- what is given stays
    stays : {A : Type 0} (next given : A) → given ≡ cond (eqb n 0) next given
    stays next given = rw (← e, ne_eqb m 0 k)

    pub refused_state : (given next : Canvas) → ◌≡◌ {A = Done} (record { number = m; canvas = given }) (answer n given next)
    unfolding answer
    refused_state given next = done_is e (stays next given)

    pub refused_pixel : (v : ℕ) → ◌≡◌ {A = Pixel} (record { number = m; value = 0 }) (pixel_answer n v)
    unfolding pixel_answer
    refused_pixel v = pixel_is e (stays v 0)

    pub refused_box : (b : IRect) → ◌≡◌ {A = Boxed} (record { number = m; area = no_box }) (box_answer n b)
    unfolding box_answer
    refused_box b = box_is e (stays b no_box)

    pub refused_call : {given next : Canvas} {px drawn : List ℕ} → Called n given next px drawn (record { number = m; canvas = given }) px
    unfolding left
    refused_call {given} {next} {px} {drawn} = record { answers = refused_state given next; paints = stays drawn px }

    -- a refused shape call takes no step
    pub refused_shape : {c : Canvas} {px drawn : List ℕ} {count : ℕ}
        → CalledCounted n c px drawn count (record { number = m; canvas = c; steps = 0 }) px
    refused_shape {c} {px} {drawn} {count} = record { called = refused_call; counts = stays count 0 }

  module _ (z : m ≡ 0) where
    -- what is next follows
    follows : {A : Type 0} (next given : A) → next ≡ cond (eqb n 0) next given
    follows next given = rw (← e, eq-eqb m 0 z)

    pub accepted_state : (given next : Canvas) → ◌≡◌ {A = Done} (record { number = m; canvas = next }) (answer n given next)
    unfolding answer
    accepted_state given next = done_is e (follows next given)

    pub accepted_pixel : (v : ℕ) → ◌≡◌ {A = Pixel} (record { number = m; value = v }) (pixel_answer n v)
    unfolding pixel_answer
    accepted_pixel v = pixel_is e (follows v 0)

    pub accepted_box : (b : IRect) → ◌≡◌ {A = Boxed} (record { number = m; area = b }) (box_answer n b)
    unfolding box_answer
    accepted_box b = box_is e (follows b no_box)

    pub accepted_call : {given next : Canvas} {px drawn : List ℕ} → Called n given next px drawn (record { number = m; canvas = next }) drawn
    unfolding left
    accepted_call {given} {next} {px} {drawn} = record { answers = accepted_state given next; paints = follows drawn px }

    -- by what is drawn and what is counted; and of a shape that takes one step at each pixel
    pub accepted_counted : {c : Canvas} {px drawn px' : List ℕ} {count k : ℕ} → px' ≡ drawn → k ≡ count
        → CalledCounted n c px drawn count (record { number = m; canvas = c; steps = k }) px'
    accepted_counted {c} {px} {drawn} {px'} {count} {k} p q = record { called = rw p accepted_call; counts = q ∙ follows count 0 }

    pub accepted_shape : {c : Canvas} {px drawn px' : List ℕ} {most k : ℕ} → Drew most px drawn k px'
        → ShapeCalled n c px drawn (record { number = m; canvas = c; steps = k }) px'
    accepted_shape {c} {px} {drawn} {px'} {most} {k} d = accepted_counted d.paints (d.counts ∙ ap (differ px) d.paints)
