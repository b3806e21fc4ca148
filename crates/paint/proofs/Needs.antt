-- The greatest need of a sheet's items, one after the other. Assumes nothing.
use Prim.Native.Nat.{ℕ, suc, ◌+◌, ◌-◌, ◌<◌, ◌≤◌, max}
use mathlib.Core.Path.{◌≡◌, refl}
use mathlib.Core.List.{List}
use native.Mathlib.Omega.{arith}
use Rattle.sheet.specs.Check.{bytes_at}
use Rattle.items.specs.Items.{item_of}
use Rattle.items.specs.Format.{need_of, needs, items_from}
use Rattle.render.proofs.Drawing.{need_in_lem}

-- one item more
pub need_turn : (s : List ℕ) (n k m r : ℕ) → k < n → r ≡ max m (need_of (bytes_at s k) (item_of (bytes_at s k)))
    → max m (needs (items_from s (n - k) k)) ≡ max r (needs (items_from s (n - (k + 1)) (k + 1)))
unfolding items_from needs
need_turn s n k m r h e =
    let t : n - k ≡ suc (n - (k + 1)) = omega arith in
    rw (t, need_in_lem (bytes_at s k) (item_of (bytes_at s k)) refl, e) (omega arith)

-- no item is left
pub need_done : (s : List ℕ) (n k m : ℕ) → n ≤ k → max m (needs (items_from s (n - k) k)) ≡ m
unfolding items_from needs
need_done s n k m h = let t : n - k ≡ 0 = omega arith in rw t (omega arith)
