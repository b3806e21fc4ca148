-- The kinds of an order, set from the last on, and their items. Assumes nothing.
use Rattle.std.proofs.Common.{◌≡◌, refl, sym, ap, ◌∙◌, ℕ, zero, suc, ◌+◌, ◌-◌, ◌/◌, ◌%◌, ◌≤◌, ◌<◌, List, [], ◌∷◌, ◌++◌, map, length, set, drop, arith}
use borrow.Author.Tests.{ne_eqb}
use lib.ListN.{length-set}
use lib.Seq.{drop-cons, append_snoc, get_or-set_same, drop-set-lt}
use Rattle.orders.specs.declared.Kind.{Kind}
use Rattle.orders.specs.Orders.{push, pop, fill, item}
use Rattle.orders.specs.Kinds.{digit_of, kinds_in}
use Rattle.orders.proofs.Digits.{kinds_more, most}

pub digits_left : (from rest : ℕ) → 0 < rest → rest ≤ most from → 1 ≤ from
unfolding most
digits_left zero rest h m = absurd (omega arith)
digits_left (suc n) rest h m = omega arith

pub less_left : (from rest : ℕ) → 0 < rest → rest ≤ most from → (rest - 1) / 3 ≤ most (from - 1)
unfolding most
less_left zero rest h m = absurd (omega arith)
less_left (suc n) rest h m = let e : suc n - 1 ≡ n = omega arith in rw e (omega arith)

-- a kind set before those that are set
set_before : {A : Type 0} (kinds : List A) (n : ℕ) (kind : A) → n < length kinds → drop n (set kinds n kind) ≡ kind ∷ drop (suc n) kinds
set_before kinds n kind h =
    drop-cons (set kinds n kind) n kind (rw (length-set kinds n kind) h)
    ∙ rw (get_or-set_same kinds n kind kind h, drop-set-lt (suc n) kinds n kind (omega arith))

pub kinds_turn : (kinds : List ℕ) (from rest : ℕ) → 0 < rest → 1 ≤ from → from ≤ length kinds
    → kinds_in (from - 1) ((rest - 1) / 3) ++ drop (from - 1) (set kinds (from - 1) ((rest - 1) % 3 + 1)) ≡ kinds_in from rest ++ drop from kinds
kinds_turn kinds zero rest h l m = absurd (omega arith)
kinds_turn kinds (suc n) rest h l m =
    let e : suc n - 1 ≡ n = omega arith in
    rw (e, set_before kinds n ((rest - 1) % 3 + 1) (omega arith), kinds_more n rest h)
    (sym (append_snoc (kinds_in n ((rest - 1) / 3)) ((rest - 1) % 3 + 1) (drop (suc n) kinds)))

-- the same of the kinds whose digits these are
pub kinds_next : (kinds : List Kind) (from rest : ℕ) (kind : Kind) → digit_of kind ≡ (rest - 1) % 3 + 1 → 0 < rest → 1 ≤ from → from ≤ length kinds
    → kinds_in (from - 1) ((rest - 1) / 3) ++ map digit_of (drop (from - 1) (set kinds (from - 1) kind)) ≡ kinds_in from rest ++ map digit_of (drop from kinds)
kinds_next kinds zero rest kind is h l m = absurd (omega arith)
kinds_next kinds (suc n) rest kind is h l m =
    let e : suc n - 1 ≡ n = omega arith in
    rw (e, set_before kinds n kind (omega arith), kinds_more n rest h, is)
    (sym (append_snoc (kinds_in n ((rest - 1) / 3)) ((rest - 1) % 3 + 1) (map digit_of (drop (suc n) kinds))))

pub items_of : (f : ℕ → List ℕ) (kinds : List Kind) → map (λ kind. f (digit_of kind)) kinds ≡ map f (map digit_of kinds)
items_of f [] = refl
items_of f (kind ∷ kinds) = ap (λ l. f (digit_of kind) ∷ l) (items_of f kinds)

-- ---- the three items

pub item_push : (kind : ℕ) → kind ≡ 1 → item kind ≡ push
unfolding item
item_push kind e = rw e

pub item_pop : (kind : ℕ) → kind ≡ 2 → item kind ≡ pop
unfolding item
item_pop kind e = rw e

pub item_fill : (kind : ℕ) → (kind ≡ 1 → ⊥) → (kind ≡ 2 → ⊥) → item kind ≡ fill
unfolding item
item_fill kind h k = rw (ne_eqb kind 1 h, ne_eqb kind 2 k)
