-- The call: what an accepted one says of its arguments, and what is left by whether it is refused. Assumes nothing.
use mathlib.Core.Path.{◌≡◌, refl, ◌∙◌}
use mathlib.Core.Bool.{Bool, true, false, cond}
use Rattle.std.proofs.Common.{Ok}
use Rattle.std.specs.declared.result.Result.{Result}
use Rattle.std.specs.Result.{IsErrAnd}
use Rattle.geom.specs.declared.checks.Refusal.{Refusal}
use Rattle.geom.specs.declared.checks.Refusal.TheVariants.{Scratch}
use Rattle.geom.specs.Refusals.{code, tested, number_of}
use Rattle.geom.proofs.Refusals.{code_some}
use mathlib.Core.List.{List}
use Prim.Native.Nat.{ℕ}
use native.Mathlib.Omega.{arith}
use lib.Dec.{leb}
use lib.ListN.{length}
use lib.Ieee.{Float}
use borrow.Author.Tests.{eq-eqb, ne_eqb}
use Rattle.draw.specs.Draw.{drawn}
use Rattle.draw.specs.Areas.{Drew}
use Rattle.draw.proofs.Loops.{drew_kept}
use Rattle.gfx.specs.Calls.{unless, counted_of}
use Rattle.gfx.specs.Points.{points_number}
use Rattle.paints.specs.Paints.{paint_ok}
use Rattle.gfx.specs.declared.Canvas.{Canvas}
use Rattle.paints.specs.declared.Paint.{Paint}
use Rattle.gfx.proofs.Answers.{stopped_shape, done_shape, refused_shape, accepted_shape}
use Rattle.poly.specs.Poly.{poly_reach, poly_need, poly_ink, cleared, poly_number, Filled}

-- ---- a call whose answer is made of a result

module _ {c : Canvas} {px : List ℕ} {pts : List Float} {paint : Paint} {scratch : List Float} where
  -- a `?` left with the refusal x
  pub stopped_fill : (x : Refusal) {n : ℕ} → code x ≡ n → (r : Result ℕ Refusal) → IsErrAnd r (λ y. y ≡ x)
      → Filled n c px pts paint scratch (counted_of c r) px scratch
  stopped_fill x e r p = record { called = stopped_shape x e r p; clears = rw (← e, code_some x) }

  -- the tests passed
  pub done_fill : {n : ℕ} → 0 ≡ n → {most k : ℕ} {px' : List ℕ} {scratch' : List Float} → Drew most px (drawn c.pitch c.clip (poly_reach pts) (poly_ink pts paint) px) k px'
      → scratch' ≡ cleared (poly_need pts) scratch → Filled n c px pts paint scratch (counted_of c (Ok k)) px' scratch'
  done_fill z d s = record { called = done_shape z d; clears = rw (s, ← z) }

module _ (c : Canvas) (n : ℕ) (pts : List Float) (paint : Paint) (words : ℕ) where
  -- the number is that of the first four tests, where they refuse; and else the words tell
  pub by_points : (x : Refusal) → code x ≡ points_number c n pts (paint_ok paint) → code x ≡ poly_number c n pts paint words
  unfolding poly_number
  by_points x e = rw (← e, code_some x)

  pub by_words : 0 ≡ points_number c n pts (paint_ok paint) → unless (leb (poly_need pts) words) 9 0 ≡ poly_number c n pts paint words
  unfolding poly_number
  by_words e = rw (← e)

-- the number of the test of the words
pub told : (t : Bool) → number_of (tested t Scratch) ≡ unless t 9 0
told true = refl
told false = refl

-- ---- a call that tests its number

module _ (c : Canvas) (n : ℕ) (pts : List Float) (paint : Paint) (words : ℕ) where
  pub number_refused : {m : ℕ} → m ≡ points_number c n pts (paint_ok paint) → (m ≡ 0 → ⊥) → m ≡ poly_number c n pts paint words
  unfolding poly_number
  number_refused {m} e k = rw (← e, ne_eqb m 0 k)

  passed_number : points_number c n pts (paint_ok paint) ≡ 0 → unless (leb (poly_need pts) words) 9 0 ≡ poly_number c n pts paint words
  unfolding poly_number
  passed_number e = rw e

module _ {n m : ℕ} (e : m ≡ n) {c : Canvas} {px : List ℕ} {pts : List Float} {paint : Paint} {scratch : List Float} where
  pub refused_fill : (m ≡ 0 → ⊥) → Filled n c px pts paint scratch (record { number = m; canvas = c; steps = 0 }) px scratch
  refused_fill k = record { called = refused_shape e k; clears = rw (← e, ne_eqb m 0 k) }

  pub accepted_fill : m ≡ 0 → {most k : ℕ} {px' : List ℕ} {scratch' : List Float} → Drew most px (drawn c.pitch c.clip (poly_reach pts) (poly_ink pts paint) px) k px' → scratch' ≡ cleared (poly_need pts) scratch
      → Filled n c px pts paint scratch (record { number = m; canvas = c; steps = k }) px' scratch'
  accepted_fill z d s = record { called = accepted_shape e z d; clears = rw (s, ← e, eq-eqb m 0 z) }

-- the call after the first four tests: the words tell
pub lent_fill : (c : Canvas) (px : List ℕ) (pts : List Float) (paint : Paint) (scratch : List Float) {most m k : ℕ} {px' : List ℕ} {scratch' : List Float} → points_number c (length px) pts (paint_ok paint) ≡ 0
    → m ≡ unless (leb (poly_need pts) (length scratch)) 9 0
    → Drew most px (cond (leb (poly_need pts) (length scratch)) (drawn c.pitch c.clip (poly_reach pts) (poly_ink pts paint) px) px) k px'
    → scratch' ≡ cond (leb (poly_need pts) (length scratch)) (cleared (poly_need pts) scratch) scratch
    → Filled (poly_number c (length px) pts paint (length scratch)) c px pts paint scratch (record { number = m; canvas = c; steps = k }) px' scratch'
lent_fill c px pts paint scratch {most} {m} {k} {px'} {scratch'} z = go (leb (poly_need pts) (length scratch)) (passed_number c (length px) pts paint (length scratch) z)
  where
    nine : (j : ℕ) → j ≡ 9 → j ≡ 0 → ⊥
    nine j e h = omega arith

    go : (t : Bool) → unless t 9 0 ≡ poly_number c (length px) pts paint (length scratch) → m ≡ unless t 9 0
        → Drew most px (cond t (drawn c.pitch c.clip (poly_reach pts) (poly_ink pts paint) px) px) k px'
        → scratch' ≡ cond t (cleared (poly_need pts) scratch) scratch
        → Filled (poly_number c (length px) pts paint (length scratch)) c px pts paint scratch (record { number = m; canvas = c; steps = k }) px' scratch'
    go true q e d s = accepted_fill (e ∙ q) e d s
    go false q e d s = rw (drew_kept d, d.paints, s) (refused_fill (e ∙ q) (nine m e))
