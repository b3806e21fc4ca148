-- The walk over the items of an accepted sheet: the numbers of those that stay, one item more. Assumes nothing.
use Prim.Native.Nat.{ℕ, suc, ◌+◌, ◌-◌, ◌<◌, ◌≤◌}
use mathlib.Core.Path.{◌≡◌, refl, sym, ◌∙◌}
use mathlib.Core.Bool.{Bool, true, false, cond, not, true≢false}
use mathlib.Core.List.{List, [], ◌∷◌, ◌++◌, map, append-nil, map-append}
use native.Mathlib.Nat.{add-zero}
use native.Mathlib.Numerals.{add-one}
use native.Mathlib.Omega.{arith}
use lib.ListN.{length, take, set, length-take, length-set}
use lib.Seq.{append_snoc, take-set-le, take-suc-set}
use Rattle.geom.specs.Box.{meet, empty}
use Rattle.gfx.specs.declared.Canvas.{Canvas}
use Rattle.sheet.specs.Check.{width_of, count_of, bytes_at, verdict, sheet_check}
use Rattle.sheet.proofs.Accepted.{accepted, pairs_inside}
use Rattle.redraw.specs.Drawing as drawing
use Rattle.redraw.specs.Drawing.{push, pop, shape}
use Rattle.redraw.specs.Shed.{stays, shed}
use Rattle.items.specs.Items.{item_of}
use Rattle.items.specs.Format.{reach_of, kind, item_in, bytes_of, items_from}
use Rattle.items.proofs.Lawful.{own}
use Rattle.clips.specs.States.{start_of, state_after, is_shape}
use Rattle.clips.proofs.Clips.{clips_of}
use Rattle.clips.proofs.Shapes.{shape_own, shape_leaves}
use Rattle.clips.proofs.Standing.{Standing, stands_start, clips_start, stands_next, clips_next}
use Rattle.chosen.specs.Chosen.{chosen, Small}
use Rattle.compact.specs.Compact.{kept_in}
use mir.Val.{bool_byte}

-- a test as a number
pub one_most : (t : Bool) → bool_byte t ≤ 1
one_most true = omega arith
one_most false = omega arith

pub as_number : (v t : Bool) → v ≡ not t → bool_byte v ≡ cond t 0 1
as_number v true e = rw e
as_number v false e = rw e

-- ---- what may be written

pub small_of : (s : List ℕ) → sheet_check s ≡ verdict 0 0 → (kept : List ℕ) (count : ℕ) → count ≤ 1024 → Small s (take count kept)
small_of s e kept count h =
    let a = accepted s e in
    record { header = omega (arith, pairs_inside s a.pairs); size = a.size; few = omega (arith, length-take count kept) }

-- ---- whether an item stays

module _ (b : List ℕ) (c : Canvas) where
  -- a shape by its reach
  shape_stays : is_shape (item_in b) ≡ true → ◌≡◌ {A = ℕ} (cond (empty (meet c.clip (reach_of b (item_of b)))) 0 1) (cond (stays kind (item_in b) c.clip) 1 0)
  unfolding stays
  shape_stays e = rw (shape_own b (item_of b) e) (go (empty (meet c.clip (reach_of b (item_of b)))))
    where
      go : (t : Bool) → ◌≡◌ {A = ℕ} (cond t 0 1) (cond (not t) 1 0)
      go true = refl
      go false = refl

-- a push or a pop stays
other_stays : (i : drawing.Item (List ℕ)) (c : Canvas) → is_shape i ≡ false → ◌≡◌ {A = ℕ} 1 (cond (stays kind i c.clip) 1 0)
unfolding stays is_shape
other_stays (push b box) c e = refl
other_stays (pop b) c e = refl
other_stays (shape b) c e = absurd (true≢false e)

-- ---- the loop

pub few_items : (s : List ℕ) → sheet_check s ≡ verdict 0 0 → (n : ℕ) → n ≡ count_of s → n ≤ 1024
few_items s e n q = omega (arith, q, (accepted s e).count)

module _ (s : List ℕ) where
  -- the items from k on that stay, of n, from a state on
  abbrev left : ℕ → ℕ → Canvas → List (List ℕ)
  left n k c = map bytes_of (shed kind (items_from s (n - k) k) (clips_of c))

  -- before the item k: those chosen so far, and then those from k on that stay, are all that stay
  pub record Keeping (n : ℕ) (kept : List ℕ) (c : Canvas) (count k : ℕ) : Type 0 where
    pub within : k ≤ n
    pub stands : Standing s (width_of s) k c
    pub low : count ≤ k
    pub long : length kept ≡ 1024
    pub are : chosen s (take count kept) ++ left n k c ≡ kept_in s

  pub keeping_first : sheet_check s ≡ verdict 0 0 → (n : ℕ) → n ≡ count_of s → (kept : List ℕ) → length kept ≡ 1024 → Keeping n kept (start_of s) 0 0
  unfolding kept_in
  keeping_first e n q kept long =
      let z : n - 0 ≡ n = omega arith in
      record { within = omega arith; stands = stands_start s e; low = omega arith; long = long; are = rw (z, q, clips_start s) }

  module _ (e : sheet_check s ≡ verdict 0 0) (n : ℕ) (q : n ≡ count_of s) (kept : List ℕ) (c : Canvas) (count k : ℕ) (w : Keeping n kept c count k) (h : k < n) where
    abbrev b : List ℕ
    b = bytes_at s k

    abbrev next : Canvas
    next = state_after (item_of b) c

    pub room : count < length kept
    room = omega (arith, w.low, w.long, few_items s e n q)

    -- the item's number set in the next place, which counts or not
    chosen_more : chosen s (take (count + 1) (set kept count k)) ≡ chosen s (take count kept) ++ (b ∷ [])
    chosen_more = rw (add-one count, take-suc-set kept count k room) (map-append (bytes_at s) (take count kept) (k ∷ []))

    chosen_none : chosen s (take (count + 0) (set kept count k)) ≡ chosen s (take count kept)
    chosen_none = rw (add-zero count, take-set-le count kept count k (omega arith))

    -- the items from k on that stay, by whether the item k does
    go_on : (t : Bool) → stays kind (item_in b) c.clip ≡ t → chosen s (take (count + cond t 1 0) (set kept count k)) ++ left n (k + 1) next ≡ kept_in s
    unfolding items_from shed
    go_on t p =
        let u : n - k ≡ suc (n - (k + 1)) = omega arith in
        let after = clips_next s (width_of s) e k (omega (arith, q)) c w.stands in
        by t p (rw (u, sym after) at w.are)
      where
        rest : List (drawing.Item (List ℕ))
        rest = shed kind (items_from s (n - (k + 1)) (k + 1)) (clips_of next)

        by : (t : Bool) → stays kind (item_in b) c.clip ≡ t
            → chosen s (take count kept) ++ map bytes_of (cond (stays kind (item_in b) c.clip) (item_in b ∷ rest) rest) ≡ kept_in s
            → chosen s (take (count + cond t 1 0) (set kept count k)) ++ map bytes_of rest ≡ kept_in s
        by true p r = rw chosen_more (append_snoc (chosen s (take count kept)) b (map bytes_of rest)) ∙ rw (p, own b (item_of b)) at r
        by false p r = rw chosen_none (rw p at r)

    keeping_next : (add : ℕ) → add ≡ cond (stays kind (item_in b) c.clip) 1 0 → Keeping n (set kept count k) next (count + add) (k + 1)
    keeping_next add a =
        record {
          within = omega arith;
          stands = stands_next s (width_of s) e k (omega (arith, q)) c w.stands;
          low = rw a (one_more (stays kind (item_in b) c.clip));
          long = simp length-set w.long;
          are = rw a (go_on (stays kind (item_in b) c.clip) refl);
        }
      where
        one_more : (t : Bool) → count + cond t 1 0 ≤ k + 1
        one_more true = omega (arith, w.low)
        one_more false = omega (arith, w.low)

    -- a shape leaves the state
    pub keeping_shape : is_shape (item_in b) ≡ true → (add : ℕ) → add ≡ cond (empty (meet c.clip (reach_of b (item_of b)))) 0 1
        → Keeping n (set kept count k) c (count + add) (k + 1)
    keeping_shape i add a = rw (shape_leaves b (item_of b) c i) at (keeping_next add (a ∙ shape_stays b c i))

    -- a push or a pop stays, and alters it
    pub keeping_other : is_shape (item_in b) ≡ false → Keeping n (set kept count k) next (count + 1) (k + 1)
    keeping_other i = keeping_next 1 (other_stays (item_in b) c i)

  pub keeping_end : (n : ℕ) (kept : List ℕ) (c : Canvas) (count k : ℕ) → Keeping n kept c count k → n ≤ k → chosen s (take count kept) ≡ kept_in s
  unfolding items_from shed
  keeping_end n kept c count k w h =
      let u : n - k ≡ 0 = omega arith in
      sym (append-nil (chosen s (take count kept))) ∙ rw u at w.are
