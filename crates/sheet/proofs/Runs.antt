-- Turns of the loops over the pairs and over the items: where the one at k stops the loop, where m are left after it, and the end.
-- Assumes nothing.
use Prim.Native.Nat.{ℕ, zero, suc, ◌+◌, ◌-◌, ◌<◌, ◌≤◌}
use mathlib.Core.Path.{◌≡◌, sym, ap, ◌∙◌}
use mathlib.Core.Bool.{Bool, true, false, cond}
use mathlib.Core.List.{List}
use native.Mathlib.Numerals.{add-one}
use native.Mathlib.Omega.{arith}
use lib.ListN.{length}
use lib.Dec.{eqb}
use borrow.Author.Tests.{eq-eqb, ne_eqb}
use Rattle.geom.specs.Refusals.{code}
use Rattle.geom.specs.declared.checks.Refusal.{Refusal}
use Rattle.geom.specs.declared.checks.Refusal.TheVariants.{SheetLength, Header, Pairs, Kind, ZeroByte, Float, Clips, Pixels, Scratch, Difference, Ink, State, Points, Many, Pitch, Buffer, Command, FlagWrite, NotReady, Order}
use Rattle.sheet.specs.Kinds.{kind_at}
use Rattle.sheet.specs.Check.{offset_of, length_of, pairs_from, number_at, depth_at, at_item, verdict, items_from}
use Rattle.sheet.specs.declared.check.Fault.{Fault}

-- no refusal has the number 0
pub not_zero : (r : Refusal) → code r ≡ 0 → ⊥
not_zero SheetLength e = omega arith
not_zero Header e = omega arith
not_zero Pairs e = omega arith
not_zero Kind e = omega arith
not_zero ZeroByte e = omega arith
not_zero Float e = omega arith
not_zero Clips e = omega arith
not_zero Pixels e = omega arith
not_zero Scratch e = omega arith
not_zero Difference e = omega arith
not_zero Ink e = omega arith
not_zero State e = omega arith
not_zero Points e = omega arith
not_zero Many e = omega arith
not_zero Pitch e = omega arith
not_zero Buffer e = omega arith
not_zero Command e = omega arith
not_zero FlagWrite e = omega arith
not_zero NotReady e = omega arith
not_zero Order e = omega arith

module _ (s : List ℕ) (left k : ℕ) where
  pub pairs_stop : (at : ℕ) → 0 < left → (offset_of s k ≡ at → ⊥) → pairs_from s left k at ≡ false
  unfolding pairs_from
  pairs_stop at h e = go left h
    where
      go : (left : ℕ) → 0 < left → pairs_from s left k at ≡ false
      go zero h = absurd (omega arith)
      go (suc left) h = simp (ne_eqb (offset_of s k) at e)

  pub pairs_turn : (at m : ℕ) → left ≡ m + 1 → offset_of s k ≡ at → pairs_from s left k at ≡ pairs_from s m (k + 1) (at + length_of s k)
  unfolding pairs_from
  pairs_turn at m l e = rw (l, add-one, eq-eqb (offset_of s k) at e)

  pub pairs_done : (at : ℕ) → left ≡ 0 → pairs_from s left k at ≡ eqb at (length s)
  unfolding pairs_from
  pairs_done at l = rw l

  pub items_stop : (depth : ℕ) → 0 < left → (number_at s k depth ≡ 0 → ⊥) → items_from s left k depth ≡ verdict (number_at s k depth) (k + 1)
  unfolding items_from
  items_stop depth h e = go left h
    where
      go : (left : ℕ) → 0 < left → items_from s left k depth ≡ verdict (number_at s k depth) (k + 1)
      go zero h = absurd (omega arith)
      go (suc left) h = simp (ne_eqb (number_at s k depth) 0 e)

  -- the item k is refused
  pub items_refused : (depth : ℕ) (f : Fault) → 0 < left → (f ≡ at_item f.refusal k) × (number_at s k depth ≡ code f.refusal)
      → items_from s left k depth ≡ verdict (code f.refusal) f.item
  items_refused depth f h (e, n) =
      rw (items_stop depth h (λ z. not_zero f.refusal (sym n ∙ z)), n) (ap (λ (g : Fault). verdict (code f.refusal) g.item) (sym e))

  pub items_turn : (depth m : ℕ) → left ≡ m + 1 → number_at s k depth ≡ 0 → items_from s left k depth ≡ items_from s m (k + 1) (depth_at s k depth)
  unfolding items_from
  items_turn depth m l e = rw (l, add-one, eq-eqb (number_at s k depth) 0 e)

  pub items_done : (depth : ℕ) → left ≡ 0 → items_from s left k depth ≡ verdict 0 0
  unfolding items_from
  items_done depth l = rw l

-- an item saves one clip at most
pub depth_grows : (s : List ℕ) (k depth : ℕ) → depth_at s k depth ≤ depth + 1
unfolding depth_at
depth_grows s k depth = go (eqb (kind_at s (offset_of s k)) 1) (eqb (kind_at s (offset_of s k)) 2)
  where
    go : (push pop : Bool) → cond push (depth + 1) (cond pop (depth - 1) depth) ≤ depth + 1
    go true pop = omega arith
    go false true = omega arith
    go false false = omega arith
