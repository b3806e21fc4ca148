-- What is claimed of all the sheets together (request 2026-14). Proved in proofs/Theorem.
use Rattle.std.specs.Prelude.{ℕ, ◌*◌, ◌≤◌, ◌<◌, true, List, [], ◌∷◌, ◌⊎◌, ◌≡◌, length}
use Rattle.draw.specs.Frame.{pitch_ok}
use Rattle.sheet.specs.Check.{verdict, sheet_check}
use Rattle.redraw.specs.Sheet.{painting, accepted}
use Rattle.items.specs.Format.{format}
use Rattle.orders.specs.Orders.{orders_to, order_at, as_sheet, order_sheet}

-- an order: each item is a push, a pop or a fill
pub data Order : List ℕ → Type 0 where
  none : Order []
  more : {kind : ℕ} {o : List ℕ} → 1 ≤ kind → kind ≤ 3 → Order o → Order (kind ∷ o)

-- the sheet of an order has a number
pub record Numbered (o : List ℕ) : Type 0 where
  pub number : ℕ
  pub below : number < 1093
  pub is : order_sheet number ≡ as_sheet o

-- of two orders of equal count: push stands before pop before fill, the first item weighing most
pub data Lesser : List ℕ → List ℕ → Type 0 where
  here : {a b : ℕ} {o p : List ℕ} → a < b → Lesser (a ∷ o) (b ∷ p)
  later : {a : ℕ} {o p : List ℕ} → Lesser o p → Lesser (a ∷ o) (a ∷ p)

-- fewer items come first
abbrev pub Before : List ℕ → List ℕ → Type 0
Before o p = (length o < length p) ⊎ ((length o ≡ length p) × Lesser o p)

pub record Every : Type 0 where
  -- "There are 1,093"
  pub count : length (orders_to 6) ≡ 1093
  -- "all sheets of 0 to 6 items", and no other
  pub only : (k : ℕ) → k < 1093 → Order (order_at k) × (length (order_at k) ≤ 6)
  -- "each appears exactly once": every order of up to 6 items has a number, and no two numbers have the same sheet
  pub all : (o : List ℕ) → Order o → length o ≤ 6 → Numbered o
  pub once : (j k : ℕ) → j < 1093 → k < 1093 → order_sheet j ≡ order_sheet k → j ≡ k
  -- "Sheets of fewer items come first, and among those of equal count push stands before pop before fill, the first item weighing
  -- most"
  pub ordered : (j k : ℕ) → j < k → k < 1093 → Before (order_at j) (order_at k)
  -- "each is accepted by painting": it passes every check of a sheet, and is painted in 4 rows of any pitch whatever the scratch,
  -- also with none
  pub checked : (k : ℕ) → k < 1093 → sheet_check (order_sheet k) ≡ verdict 0 0
  pub painted : (k pitch words : ℕ) → k < 1093 → pitch_ok 4 pitch ≡ true
      → accepted (painting format (order_sheet k) pitch (pitch * 4) words) ≡ true
