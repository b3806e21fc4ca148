-- `gfx::store_row` meets its contract. The words before p are v. Assumes nothing.
use mathlib.Core.Path.{◌≡◌, refl, ap, sym, ◌∙◌}
use mathlib.Core.List.{List, [], ◌∷◌, ◌++◌, append-nil}
use Prim.Native.Nat.{ℕ, zero, suc, ◌+◌, ◌-◌, ◌*◌, ◌<◌}
use native.Mathlib.Nat.{not-suc-le-zero, le_of_suc-le-suc, le_of_eq}
use native.Mathlib.Numerals.{add-one}
use native.Mathlib.Omega.{arith}
use borrow.Rule.Slice.PartMut.{mid_len}
use lib.ListN.{length, set, take, drop, replicate, drop_of_length-le}
use Rattle.gfx.proofs.Fits.{row_filled}
use Rattle.gfx.proofs.store_row.Goals as goal

-- one word more of a part, of which the first i are v
more : (i v : ℕ) (part : List ℕ) → i < length part → set (replicate i v ++ drop i part) i v ≡ replicate (suc i) v ++ drop (suc i) part
more i v [] h = absurd (not-suc-le-zero h)
more zero v (x ∷ xs) h = refl
more (suc i) v (x ∷ xs) h = ap (λ (t : List ℕ). v ∷ t) (more i v xs (le_of_suc-le-suc h))

-- all of them
done : (i v : ℕ) (part ys : List ℕ) → ys ≡ replicate i v ++ drop i part → i ≡ length part → ys ≡ replicate (length part) v
done i v part ys e n =
    e ∙ rw (n, drop_of_length-le part (le_of_eq refl)) (append-nil (replicate (length part) v))

pub loop-p-init : goal.loop-p-init
loop-p-init c = refl

pub loop-p-preserved : goal.loop-p-preserved
loop-p-preserved c = rw (c.loop-p.invariant, add-one) (more c.loop-p.p-index c.args.v _ (omega arith))

pub returns : goal.returns
returns c =
    let a = c.args in
    let row = a.y * a.pitch in
    let part = take (row + a.w - row) (drop row a.px.now) in
    let long : length part ≡ row + a.w - row = mid_len row (row + a.w) a.px.now (omega (arith, c.requires.right, c.requires.room)) in
    let n : c.loop-p.p-index ≡ row + a.w - row = omega arith in
    row_filled _ _ _ _ _ _ _ c.requires (omega arith) (done c.loop-p.p-index a.v part _ c.loop-p.invariant (n ∙ sym long))
