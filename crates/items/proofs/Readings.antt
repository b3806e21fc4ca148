-- The reading of a sheet, by what its check says; none is refused by 9. Assumes nothing.
use Prim.Native.Nat.{ℕ, zero, suc, ◌+◌}
use mathlib.Core.Path.{◌≡◌, refl, ap}
use mathlib.Core.Bool.{Bool, true, false, cond, false≢true}
use mathlib.Core.List.{List}
use native.Mathlib.Omega.{arith}
use borrow.Author.Tests.{ne_eqb, eqb-true}
use lib.Dec.{eqb, eqb-suc-zero}
use Rattle.geom.specs.Refusals.{unless}
use Rattle.geom.proofs.Bools.{split}
use Rattle.sheet.specs.Kinds.{length_ok, points_ok, bytes_ok, floats_ok, saved_ok, item_number}
use Rattle.sheet.specs.Check as checks
use Rattle.sheet.specs.Check.{size_ok, header_ok, pairs_ok, head_number, number_at, depth_at, count_of, sheet_check, verdict}
use Rattle.sheet.specs.Check.{Verdict}
use Rattle.redraw.specs.Sheet.{Sheet, Reading, read, refused}
use Rattle.items.specs.Format.{sheet_of, reading}

-- no item is named beside the number 0
stop : (number item : ℕ) (rest : Verdict) → (rest.number ≡ 0 → rest ≡ verdict 0 0) → (cond (eqb number 0) rest (verdict number item)).number ≡ 0
    → cond (eqb number 0) rest (verdict number item) ≡ verdict 0 0
stop zero item rest r e = r e
stop (suc n) item rest r e = absurd (omega (arith, simp eqb-suc-zero at e))

items_clean : (s : List ℕ) (left k depth : ℕ) → (checks.items_from s left k depth).number ≡ 0 → checks.items_from s left k depth ≡ verdict 0 0
unfolding checks.items_from
items_clean s zero k depth e = refl
items_clean s (suc left) k depth e =
    stop (number_at s k depth) (k + 1) (checks.items_from s left (k + 1) (depth_at s k depth)) (items_clean s left (k + 1) (depth_at s k depth)) e

pub clean : (s : List ℕ) → (sheet_check s).number ≡ 0 → sheet_check s ≡ verdict 0 0
unfolding sheet_check
clean s e = stop (head_number s) 0 (checks.items_from s (count_of s) 0 0) (items_clean s (count_of s) 0 0) e

pub reads_refused : (s : List ℕ) (n k : ℕ) → sheet_check s ≡ verdict n k → (n ≡ 0 → ⊥) → reading s ≡ refused n k
unfolding reading
reads_refused s n k e h = rw (e, ne_eqb n 0 h)

pub reads_accepted : (s : List ℕ) → sheet_check s ≡ verdict 0 0 → reading s ≡ read (sheet_of s)
unfolding reading
reads_accepted s e = rw e

is_read : Reading (List ℕ) → Bool
is_read (refused n k) = false
is_read (read t) = true

not_read : {n k : ℕ} {t : Sheet (List ℕ)} → refused n k ≡ read t → ⊥
unfolding is_read
not_read e = false≢true (ap is_read e)

-- bytes that are read passed every check, and are read as their sheet
pub read_is : (s : List ℕ) (t : Sheet (List ℕ)) → reading s ≡ read t → (sheet_check s ≡ verdict 0 0) × (t ≡ sheet_of s)
unfolding reading
read_is s t e =
    split (eqb (sheet_check s).number 0)
    (λ b. cond b (read (sheet_of s)) (refused (sheet_check s).number (sheet_check s).item) ≡ read t → (sheet_check s ≡ verdict 0 0) × (t ≡ sheet_of s))
    (λ z r. (clean s (eqb-true _ 0 z), cc))
    (λ z r. absurd (not_read r))
    e

-- ---- no check of a sheet gives 9, which is said of lent scratch alone

given : (t : Bool) (n rest : ℕ) → (n ≡ 9 → ⊥) → (rest ≡ 9 → ⊥) → unless t n rest ≡ 9 → ⊥
given true n rest a b e = b e
given false n rest a b e = a e

item_given : (s : List ℕ) (at len depth : ℕ) → item_number s at len depth ≡ 9 → ⊥
unfolding item_number
item_given s at len depth =
    given (length_ok s at len) 4 _ (λ e. omega arith)
    (given (points_ok s at) 13 _ (λ e. omega arith)
    (given (bytes_ok s at) 5 _ (λ e. omega arith)
    (given (floats_ok s at) 6 _ (λ e. omega arith)
    (given (saved_ok s at depth) 7 0 (λ e. omega arith) (λ e. omega arith)))))

head_given : (s : List ℕ) → head_number s ≡ 9 → ⊥
unfolding head_number
head_given s = given (size_ok s) 1 _ (λ e. omega arith) (given (header_ok s) 2 _ (λ e. omega arith) (given (pairs_ok s) 3 0 (λ e. omega arith) (λ e. omega arith)))

told : (n item : ℕ) (rest : Verdict) → (n ≡ 9 → ⊥) → (rest.number ≡ 9 → ⊥) → (cond (eqb n 0) rest (verdict n item)).number ≡ 9 → ⊥
told n item rest a b = go (eqb n 0)
  where
    go : (t : Bool) → (cond t rest (verdict n item)).number ≡ 9 → ⊥
    go true e = b e
    go false e = a e

items_given : (s : List ℕ) (left k depth : ℕ) → (checks.items_from s left k depth).number ≡ 9 → ⊥
unfolding checks.items_from number_at
items_given s zero k depth e = omega arith
items_given s (suc left) k depth e =
    told (number_at s k depth) (k + 1) (checks.items_from s left (k + 1) (depth_at s k depth)) (item_given s _ _ depth) (items_given s left (k + 1) (depth_at s k depth)) e

check_given : (s : List ℕ) → (sheet_check s).number ≡ 9 → ⊥
unfolding sheet_check
check_given s e = told (head_number s) 0 (checks.items_from s (count_of s) 0 0) (head_given s) (items_given s (count_of s) 0 0) e

pub no_nine : (s : List ℕ) (k : ℕ) → reading s ≡ refused 9 k → ⊥
unfolding reading
no_nine s k e = go (eqb (sheet_check s).number 0) e
  where
    go : (t : Bool) → cond t (read (sheet_of s)) (refused (sheet_check s).number (sheet_check s).item) ≡ refused 9 k → ⊥
    go true q = let z : ◌≡◌ {A = ℕ} 0 1 = cc in omega arith
    go false q = let n : (sheet_check s).number ≡ 9 = cc in check_given s n
