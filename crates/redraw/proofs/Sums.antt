-- Sums over places: in two runs, and by columns and rows. An area that lies in w columns and h rows has as many places as its sides multiply to.
-- Assumes nothing.
use mathlib.Core.Path.{◌≡◌, refl, sym, ap, ap₂, ◌∙◌}
use mathlib.Core.Bool.{Bool, true, false, cond, ◌&&◌}
use Prim.Native.Nat.{ℕ, zero, suc, ◌+◌, ◌*◌, ◌-◌, ◌/◌, ◌%◌, ◌≤◌, ◌<◌, min}
use native.Mathlib.Nat.{suc-mul, zero-mul, mul_comm, add_assoc, zero-add}
use native.Mathlib.Omega.{arith}
use mathlib.Core.Logic.{◌⊎◌, inl, inr, ⊎_elim}
use lib.Arith.{digits_div, digits_mod}
use lib.Dec.{ltb}
use borrow.Author.Tests.{ltb-true, ltb-false}
use Rattle.draw.specs.declared.Area.{Area}
use Rattle.draw.specs.Areas.{within, in_area}
use Rattle.redraw.specs.Sums.{sum_to, count_to}
use Rattle.draw.proofs.Rows.{off, within_in, within_below, within_above}

pub sum_same : (f g : ℕ → ℕ) (n : ℕ) → ((i : ℕ) → i < n → f i ≡ g i) → sum_to f n ≡ sum_to g n
unfolding sum_to
sum_same f g zero h = refl
sum_same f g (suc n) h = rw (sum_same f g n (λ i l. h i (omega arith)), h n (omega arith))

pub sum_none : (f : ℕ → ℕ) (n : ℕ) → ((i : ℕ) → i < n → f i ≡ 0) → sum_to f n ≡ 0
unfolding sum_to
sum_none f zero h = refl
sum_none f (suc n) h = rw (sum_none f n (λ i l. h i (omega arith)), h n (omega arith))

pub sum_add : (f : ℕ → ℕ) (m n : ℕ) → sum_to f (m + n) ≡ sum_to f m + sum_to (λ i. f (m + i)) n
unfolding sum_to
sum_add f m zero = let e : m + 0 ≡ m = omega arith in rw e (omega arith)
sum_add f m (suc n) =
    let e : m + suc n ≡ suc (m + n) = omega arith in
    rw (e) (ap (λ (s : ℕ). s + f (m + n)) (sum_add f m n) ∙ add_assoc (sum_to f m) (sum_to (λ i. f (m + i)) n) (f (m + n)))

pub sum_first : (f : ℕ → ℕ) (n : ℕ) → sum_to f (suc n) ≡ f 0 + sum_to (λ i. f (1 + i)) n
unfolding sum_to
sum_first f n = let e : suc n ≡ 1 + n = omega arith in ap (sum_to f) e ∙ sum_add f 1 n ∙ ap (λ (a : ℕ). a + sum_to (λ i. f (1 + i)) n) (zero-add (f 0))

-- h rows of p words, of which only the first w count, have the sum of h rows of w words with the same in them
pub sum_rows : (f g : ℕ → ℕ) (w p h : ℕ) → w ≤ p → ((x y : ℕ) → x < w → y < h → f (y * p + x) ≡ g (y * w + x))
    → ((x y : ℕ) → w ≤ x → x < p → y < h → f (y * p + x) ≡ 0) → sum_to f (h * p) ≡ sum_to g (h * w)
unfolding sum_to
sum_rows f g w p zero r same none = rw (zero-mul p, zero-mul w)
sum_rows f g w p (suc h) r same none =
    rw (suc-mul h p, suc-mul h w)
    (sum_add f (h * p) p
    ∙ ap₂ (λ (m n : ℕ). m + n) (sum_rows f g w p h r (λ x y k l. same x y k (omega arith)) (λ x y k m l. none x y k m (omega arith))) row
    ∙ sym (sum_add g (h * w) w))
  where
    row : sum_to (λ i. f (h * p + i)) p ≡ sum_to (λ i. g (h * w + i)) w
    row =
        let whole : p ≡ w + (p - w) = omega arith in
        let first = sum_same (λ i. f (h * p + i)) (λ i. g (h * w + i)) w (λ x k. same x h k (omega arith)) in
        let past = sum_none (λ i. f (h * p + (w + i))) (p - w) (λ i k. none (w + i) h (omega arith) (omega arith) (omega arith)) in
        ap (sum_to (λ i. f (h * p + i))) whole ∙ sum_add (λ i. f (h * p + i)) w (p - w) ∙ omega (arith, first, past)

-- columns by a test p, rows by a test q
module _ (w : ℕ) (p q : ℕ → Bool) where
  row : (y : ℕ) → sum_to (λ i. cond (p ((y * w + i) % w) && q ((y * w + i) / w)) 1 0) w ≡ cond (q y) (count_to p w) 0
  row y = go (q y) refl
    where
      go : (t : Bool) → q y ≡ t → sum_to (λ i. cond (p ((y * w + i) % w) && q ((y * w + i) / w)) 1 0) w ≡ cond t (count_to p w) 0
      go true e = sum_same _ _ w (λ i h. rw (digits_mod y h, digits_div y h, e) (whole (p i)))
        where
          whole : (t : Bool) → cond {A = ℕ} (t && true) 1 0 ≡ cond t 1 0
          whole true = refl
          whole false = refl
      go false e = sum_none _ w (λ i h. rw (digits_div y h, e, off (p ((y * w + i) % w))))

  pub count_grid : (h : ℕ) → count_to (λ i. p (i % w) && q (i / w)) (h * w) ≡ count_to q h * count_to p w
  unfolding sum_to
  count_grid zero = rw (zero-mul w, zero-mul (count_to p w))
  count_grid (suc h) =
      rw (suc-mul h w)
      (sum_add _ (h * w) w ∙ rw (count_grid h, row h) (go (q h) (count_to q h) (count_to p w)))
    where
      go : (t : Bool) (a b : ℕ) → a * b + cond t b 0 ≡ (a + cond t 1 0) * b
      go true a b = omega (arith, suc-mul a b)
      go false a b = omega arith

-- a range that lies below n
side : (a b : ℕ) → (a < b) ⊎ (b ≤ a)
side a b = go (ltb a b) refl
  where
    go : (t : Bool) → ltb a b ≡ t → (a < b) ⊎ (b ≤ a)
    go true e = inl (ltb-true a b e)
    go false e = inr (ltb-false a b e)

count_below : (lo hi n : ℕ) → lo ≤ hi → count_to (within lo hi) n ≡ min hi n - min lo n
unfolding sum_to
count_below lo hi zero l = omega arith
count_below lo hi (suc n) l =
    let rest = count_below lo hi n l in
    ⊎_elim
    (λ (a : n < lo). rw (within_below lo hi n a) (omega (arith, rest)))
    (λ (a : lo ≤ n). ⊎_elim
    (λ (b : n < hi). rw (within_in lo hi n a b) (omega (arith, rest)))
    (λ (b : hi ≤ n). rw (within_above lo hi n b) (omega (arith, rest)))
    (side n hi))
    (side n lo)

pub count_within : (lo hi n : ℕ) → lo ≤ hi → hi ≤ n → count_to (within lo hi) n ≡ hi - lo
count_within lo hi n l h = count_below lo hi n l ∙ omega arith

pub count_area : (w h : ℕ) (b : Area) → b.x0 ≤ b.x1 → b.x1 ≤ w → b.y0 ≤ b.y1 → b.y1 ≤ h
    → count_to (λ i. in_area b (i % w) (i / w)) (w * h) ≡ (b.x1 - b.x0) * (b.y1 - b.y0)
count_area w h b l r t d =
    rw (mul_comm w h)
    (count_grid w (within b.x0 b.x1) (within b.y0 b.y1) h
    ∙ rw (count_within b.x0 b.x1 w l r, count_within b.y0 b.y1 h t d) (mul_comm (b.y1 - b.y0) (b.x1 - b.x0)))
