-- Every small clip order (request 2026-14): the sheets of 0 to 6 items on a black canvas of 4 by 4, each item a push of (1, 1, 2,
-- 2), a pop or an opaque white fill of (0, 0, 3, 3) with r 0. Assumes nothing.
use Rattle.std.specs.Prelude.{ℕ, zero, suc, List, [], ◌∷◌, ◌++◌, map, ltb, get_or, replicate}
use Rattle.geom.specs.Refusals.{unless}
use Rattle.sheet.specs.Bytes.{lookup}
use Rattle.encode.specs.Encode.{encoded, fit_number}

-- ---- the items

-- 1, 2 and 3 as the bytes of floats
abbrev one : List ℕ
one = 0 ∷ 0 ∷ 128 ∷ 63 ∷ []

abbrev two : List ℕ
two = 0 ∷ 0 ∷ 0 ∷ 64 ∷ []

abbrev three : List ℕ
three = 0 ∷ 0 ∷ 64 ∷ 64 ∷ []

-- push clip: x, y, w, h
abbrev pub push : List ℕ
push = 1 ∷ 0 ∷ 0 ∷ 0 ∷ one ++ one ++ two ++ two

abbrev pub pop : List ℕ
pop = 2 ∷ 0 ∷ 0 ∷ 0 ∷ []

-- fill: x, y, w, h, r; then the paint: kind 0, its colour, and zeros
abbrev pub fill : List ℕ
fill = 3 ∷ 0 ∷ 0 ∷ 0 ∷ replicate 8 0 ++ three ++ three ++ replicate 4 0 ++ replicate 4 0 ++ 255 ∷ 255 ∷ 255 ∷ 255 ∷ replicate 20 0

-- by their kinds: 1 is a push, 2 a pop, 3 a fill
unfoldable pub item : ℕ → List ℕ
item kind = lookup kind ((1, push) ∷ (2, pop) ∷ []) fill

-- ---- the orders, each the kinds of its items

-- all orders of n items: push stands before pop before fill, the first item weighing most
unfoldable pub orders_of : ℕ → List (List ℕ)
orders_of zero = [] ∷ []
orders_of (suc n) = map (λ o. 1 ∷ o) (orders_of n) ++ map (λ o. 2 ∷ o) (orders_of n) ++ map (λ o. 3 ∷ o) (orders_of n)

-- all of 0 to n items: those of fewer items come first
unfoldable pub orders_to : ℕ → List (List ℕ)
orders_to zero = orders_of zero
orders_to (suc n) = orders_to n ++ orders_of (suc n)

-- the order of a number, from 0
unfoldable pub order_at : ℕ → List ℕ
order_at k = get_or (orders_to 6) k []

-- ---- the sheets

-- bytes 0 to 7 of the header: 4 by 4, black
abbrev pub head : List ℕ
head = 4 ∷ 0 ∷ 4 ∷ 0 ∷ 0 ∷ 0 ∷ 0 ∷ 0 ∷ []

abbrev pub as_sheet : List ℕ → List ℕ
as_sheet o = encoded head (map item o)

unfoldable pub order_sheet : ℕ → List ℕ
order_sheet k = as_sheet (order_at k)

-- 23 for a number of 1,093 or more, then 19 for a buffer of `room` bytes in which the sheet does not fit
unfoldable pub order_number : ℕ → ℕ → ℕ
order_number k room = unless (ltb k 1093) 23 (fit_number (order_sheet k) room)
