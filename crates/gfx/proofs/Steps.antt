-- The steps of a call whose number is n, by px as the call leaves it. Assumes nothing.
use mathlib.Core.Path.{◌≡◌, refl, sym, ◌∙◌}
use mathlib.Core.Bool.{Bool, true, false, cond}
use mathlib.Core.List.{List}
use Prim.Native.Nat.{ℕ, ◌≤◌}
use native.Mathlib.Omega.{arith}
use lib.Dec.{eqb}
use lib.ListN.{length}
use borrow.Author.Tests.{eqb-true}
use Rattle.draw.specs.Draw.{differ}
use Rattle.draw.proofs.Counts.{differ_same, differ_most}
use Rattle.gfx.specs.Calls.{left, ShapeCalled}
use Rattle.gfx.specs.declared.Canvas.{Canvas}
use Rattle.gfx.specs.declared.Counted.{Counted}
use Rattle.gfx.proofs.Sizes.{Open, open_small}

-- they are the places at which px before and after the call differ, those of a refused call too
pub steps_left : {n : ℕ} {c : Canvas} {px drawn : List ℕ} {r : Counted} {px' : List ℕ} → ShapeCalled n c px drawn r px'
    → r.steps ≡ differ px (left n px drawn)
unfolding left
steps_left {n} {px = px} {drawn = drawn} d = d.counts ∙ go (eqb n 0)
  where
    go : (t : Bool) → cond t (differ px drawn) 0 ≡ differ px (cond t drawn px)
    go true = refl
    go false = sym (differ_same px)

-- no more than the accepted call is lent words
pub few_left : (n : ℕ) (c : Canvas) (px drawn : List ℕ) → (n ≡ 0 → Open c (length px)) → differ px (left n px drawn) ≤ 8388608
unfolding left
few_left n c px drawn o = go (eqb n 0) refl
  where
    go : (t : Bool) → eqb n 0 ≡ t → differ px (cond t drawn px) ≤ 8388608
    go true e = omega (arith, differ_most px drawn, open_small (o (eqb-true n 0 e)))
    go false e = omega (arith, differ_same px)
