-- A sheet's items, each of the bytes that a function f gives, written one after the other. Assumes nothing.
use Rattle.std.proofs.Common.{◌≡◌, sym, ◌∙◌, ℕ, ◌+◌, ◌-◌, ◌*◌, ◌≤◌, ◌<◌, List, [], ◌∷◌, ◌++◌, map, length, drop, get_or, length-append, length-drop, add-one, arith}
use Rattle.std.proofs.lemmas.List.{length-map}
use lib.Seq.{drop-cons, drop-length}
use Rattle.encode.specs.Encode.{u16, pairs, joined}
use Rattle.encode.specs.Placed.{placed}
use Rattle.encode.proofs.Placing.{placed_none}
use Rattle.encode.proofs.Parts.{pairs_turn, joined_turn}

module _ {T : Type 0} (f : T → List ℕ) (xs : List T) where
  -- the bytes of the items from a place on
  abbrev pub items_from : ℕ → List (List ℕ)
  items_from i = map f (drop i xs)

  -- the item x at the place i, of the bytes b
  module _ (i : ℕ) (h : i < length xs) (x : T) (is : x ≡ get_or xs i x) (b : List ℕ) (e : b ≡ f x) where
    items_turn : items_from i ≡ b ∷ items_from (i + 1)
    items_turn = rw (drop-cons xs i x h, ← is, e, add-one i)

    left : length (items_from (i + 1)) ≡ length xs - (i + 1)
    left = length-map (drop (i + 1) xs) f ∙ length-drop (i + 1) xs

    pub pairs_step : (at : ℕ) (buf : List ℕ) → 12 + 4 * length xs ≤ length buf
        → placed (12 + 4 * (i + 1)) (pairs (at + length b) (items_from (i + 1))) (placed (12 + 4 * i) (u16 at ++ u16 (length b)) buf)
        ≡ placed (12 + 4 * i) (pairs at (items_from i)) buf
    pairs_step at buf room =
        let four : 12 + 4 * (i + 1) ≡ 12 + 4 * i + 4 = omega arith in
        rw (four, items_turn) (pairs_turn (12 + 4 * i) at b (items_from (i + 1)) buf (omega (arith, left)))

    pub joined_more : length (joined (items_from i)) ≡ length b + length (joined (items_from (i + 1)))
    unfolding joined
    joined_more = rw items_turn (length-append b (joined (items_from (i + 1))))

    pub joined_step : (at : ℕ) (buf : List ℕ) → at + length (joined (items_from i)) ≤ length buf
        → placed (at + length b) (joined (items_from (i + 1))) (placed at b buf) ≡ placed at (joined (items_from i)) buf
    joined_step at buf room = rw items_turn (joined_turn at b (items_from (i + 1)) buf (omega (arith, joined_more)))

  -- nothing is left
  module _ (i : ℕ) (e : i ≡ length xs) where
    none_left : items_from i ≡ []
    none_left = rw (e, drop-length xs)

    pub joined_none : length (joined (items_from i)) ≡ 0
    unfolding joined
    joined_none = rw none_left

    pub pairs_done : (at : ℕ) (buf : List ℕ) → 12 + 4 * length xs ≤ length buf → buf ≡ placed (12 + 4 * i) (pairs at (items_from i)) buf
    unfolding pairs
    pairs_done at buf room = rw none_left (sym (placed_none (12 + 4 * i) buf (omega arith)))

    pub joined_done : (at : ℕ) (buf : List ℕ) → at ≤ length buf → buf ≡ placed at (joined (items_from i)) buf
    unfolding joined
    joined_done at buf room = rw none_left (sym (placed_none at buf room))
