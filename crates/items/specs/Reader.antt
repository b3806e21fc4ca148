-- What the items of a sheet give, one after the other. Assumes nothing.
use Rattle.std.specs.Prelude.{ℕ, ◌+◌, ◌<◌, ◌≤◌, ◌≡◌, List, MatchOption}
use Rattle.std.specs.Borrow.{Bor}
use Rattle.std.specs.declared.option.Option.{Option}
use Rattle.sheet.specs.Check.{bytes_at}
use Rattle.items.specs.declared.reader.Items.{Items}

-- the sheet and its count stay; none is left, or the bytes of the next item come and its number grows by one
abbrev pub NextGives : Items → Option (Bor (List ℕ)) → Items → Type 0
NextGives s r t =
    (t.sheet ≡ s.sheet)
    × (t.count ≡ s.count)
    × MatchOption r ((s.count ≤ s.next) × (t.next ≡ s.next))
    (λ b. (s.next < s.count) × (t.next ≡ s.next + 1) × (b.now ≡ bytes_at s.sheet.now s.next))
