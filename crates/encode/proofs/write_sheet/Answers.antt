-- `encode::write_sheet` meets its contract. Assumes nothing.
use Rattle.std.proofs.Common.{◌≡◌, ◌+◌, ◌*◌, ◌≤◌, ℕ, List, length, map, ◌∙◌, arith}
use Rattle.std.proofs.lemmas.List.{length-map}
use Rattle.encode.specs.Encode.{joined, encoded}
use Rattle.encode.proofs.Laid.{encoded_length, length_joined}
use Rattle.encode.proofs.Parts.{items_room, parts, too_long, fits}
use Rattle.encode.proofs.write_sheet.Goals as goal

-- the length that is counted
len_is : {T : Type 0} (head : List ℕ) (items : List T) (f : T → List ℕ) (len : ℕ) → length head ≡ 8
    → len ≡ 12 + 4 * length items + length (joined (map f items)) → len ≡ length (encoded head (map f items))
len_is head items f len eight e = omega (arith, encoded_length head (map f items) eight, length_joined (map f items), length-map items f)

pub returns-then-buf-len : goal.returns-then-buf-len
returns-then-buf-len g c = λ f gives.
    let a = c.args in
    let len = len_is a.head.now a.items.now f _ c.requires.eight (c.sheet_len-len.ensures f gives) in
    too_long 0 (encoded a.head.now (map f a.items.now)) a.buf.now (omega (arith, len)) _ (c.refused.ensures ∙ rw c.into.ensures)

pub returns : goal.returns
returns g c = λ f gives.
    let a = c.args in
    let head = a.head.now in
    let its = map f a.items.now in
    let eight = c.requires.eight in
    let len = len_is head a.items.now f _ eight (c.sheet_len-len.ensures f gives) in
    let room : length (encoded head its) ≤ length a.buf.now = omega (arith, len) in
    let count : length its ≡ length a.items.now = length-map a.items.now f in
    let items = items_room head its eight a.buf.now room in
    fits 0 (encoded head its) a.buf.now room _ _ len
    (c.put_items.ensures f gives (omega (arith, items, count))
    ∙ rw (c.put_pairs.ensures f gives (omega (arith, items, count)), c.put_header.ensures)
    (rw count at (parts head its eight a.buf.now room)))
