-- The claims about all the sheets hold. Assumes nothing.
use Prim.Native.Nat.{ℕ, zero, suc, ◌+◌, ◌-◌, ◌≤◌, ◌<◌, ◌*◌}
use mathlib.Core.Bool.{true}
use mathlib.Core.List.{List, [], ◌∷◌, map}
use mathlib.Core.Path.{◌≡◌, refl, sym, ap, ◌∙◌}
use native.Mathlib.Omega.{arith}
use lib.ListN.{length}
use Rattle.sheet.specs.Kinds.{kind_at}
use Rattle.sheet.specs.Check.{count_of, bytes_at, verdict, sheet_check}
use Rattle.draw.specs.Frame.{pitch_ok}
use Rattle.redraw.specs.Sheet.{painting, accepted}
use Rattle.items.specs.Format.{format}
use Rattle.encode.proofs.Laid.{Laid, laid_bytes, laid_next, encoded_count, encoded_laid}
use Rattle.orders.specs.Orders.{item, orders_of, orders_to, order_at, head, as_sheet, order_sheet}
use Rattle.orders.specs.Kinds.{kinds_in}
use Rattle.orders.specs.Every.{Order, none, more, Numbered, Before, Every}
use Rattle.orders.proofs.Digits.{order_is, kinds_none, kinds_few, kinds_order, most, six_digits, read, read_kinds, kinds_read, read_most}
use Rattle.orders.proofs.Rising.{rising}
use Rattle.orders.proofs.Accepted.{short, few_items, sheet_checked, sheet_painted}

counted : length (orders_to 6) ≡ 1093
unfolding orders_to orders_of
counted = refl

-- the sheet of a number, by its digits
sheet_is : (k : ℕ) → k < 1093 → order_sheet k ≡ as_sheet (kinds_in 6 k)
unfolding order_sheet
sheet_is k h = rw (order_is k h)

-- ---- every order is there: its number is read off its kinds

all : (o : List ℕ) → Order o → length o ≤ 6 → Numbered o
unfolding most
all o r h =
    let n = 6 - length o in
    let six : n + length o ≡ 6 = omega arith in
    let k = read 0 o in
    let small : k ≤ most 6 = rw six at (read_most n 0 r (omega arith)) in
    let is : kinds_in 6 k ≡ o = rw (six, kinds_none n) at (kinds_read n 0 r) in
    record { number = k; below = omega arith; is = sheet_is k (omega arith) ∙ ap as_sheet is }

-- ---- no sheet comes twice: its number is read off the kinds that stand in it

unfoldable kinds_from : List ℕ → ℕ → ℕ → List ℕ
kinds_from s zero k = []
kinds_from s (suc n) k = kind_at (bytes_at s k) 0 ∷ kinds_from s n (k + 1)

kinds_laid : (s : List ℕ) (small : length s ≤ 60000) (its : List (List ℕ)) (k at : ℕ) (rest : List ℕ) → Laid s small its k at rest
    → kinds_from s (length its) k ≡ map (λ b. kind_at b 0) its
unfolding kinds_from
kinds_laid s small [] k at rest l = refl
kinds_laid s small (b ∷ bs) k at rest l =
    rw (laid_bytes s small b bs k at rest l)
    (ap (λ (x : List ℕ). kind_at b 0 ∷ x) (kinds_laid s small bs (k + 1) (at + length b) rest (laid_next s small b bs k at rest l)))

number_of : List ℕ → ℕ
number_of s = read 0 (kinds_from s (count_of s) 0)

kind_of_item : (kind : ℕ) → 1 ≤ kind → kind ≤ 3 → kind_at (item kind) 0 ≡ kind
unfolding item
kind_of_item zero h l = absurd (omega arith)
kind_of_item (suc zero) h l = refl
kind_of_item (suc (suc zero)) h l = refl
kind_of_item (suc (suc (suc zero))) h l = refl
kind_of_item (suc (suc (suc (suc n)))) h l = absurd (omega arith)

kinds_of_items : {o : List ℕ} → Order o → map (λ b. kind_at b 0) (map item o) ≡ o
kinds_of_items none = refl
kinds_of_items (more {kind = kind} {o = o} h l r) = rw (kind_of_item kind h l, kinds_of_items r)

number_is : (k : ℕ) → k < 1093 → number_of (order_sheet k) ≡ k
unfolding number_of
number_is k h =
    let o = kinds_in 6 k in
    let small = short o (kinds_few 6 k) in
    rw (
      sheet_is k h,
      encoded_count head (map item o) refl (few_items o (kinds_few 6 k)),
      kinds_laid (as_sheet o) small (map item o) 0 _ _ (encoded_laid head (map item o) refl small),
      kinds_of_items (kinds_order 6 k),
    )
    (read_kinds 6 k (six_digits k (omega arith)))

once : (j k : ℕ) → j < 1093 → k < 1093 → order_sheet j ≡ order_sheet k → j ≡ k
once j k p q e = sym (number_is j p) ∙ ap number_of e ∙ number_is k q

-- ---- the others

only : (k : ℕ) → k < 1093 → Order (order_at k) × (length (order_at k) ≤ 6)
only k h = rw (order_is k h) (kinds_order 6 k, kinds_few 6 k)

ordered : (j k : ℕ) → j < k → k < 1093 → Before (order_at j) (order_at k)
ordered j k h l = rw (order_is j (omega arith), order_is k l) (rising 6 j k h (six_digits k (omega arith)))

checked : (k : ℕ) → k < 1093 → sheet_check (order_sheet k) ≡ verdict 0 0
checked k h = rw (sheet_is k h) (sheet_checked (kinds_in 6 k) (kinds_few 6 k))

painted : (k pitch words : ℕ) → k < 1093 → pitch_ok 4 pitch ≡ true → accepted (painting format (order_sheet k) pitch (pitch * 4) words) ≡ true
painted k pitch words h p = rw (sheet_is k h) (sheet_painted (kinds_in 6 k) (kinds_few 6 k) pitch words p)

pub every : Every
every = record { count = counted; only = only; all = all; once = once; ordered = ordered; checked = checked; painted = painted }
