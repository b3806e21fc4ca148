-- The items of a sheet, one after the other: what a loop over them keeps, and what a turn of it gives. Assumes nothing.
use Prim.Native.Nat.{ℕ, ◌+◌, ◌<◌, ◌≤◌}
use mathlib.Core.Path.{◌≡◌, ap, ◌∙◌}
use mathlib.Core.List.{List}
use native.Mathlib.Omega.{arith}
use Rattle.std.specs.Borrow.{Bor}
use Rattle.std.specs.declared.option.Option.TheVariants.{None, Some}
use Rattle.sheet.specs.Check.{count_of, bytes_at}
use Rattle.items.specs.declared.reader.Items.{Items}
use Rattle.items.specs.Reader.{NextGives}

-- before an item, or after the last one
pub record ItemsOf (s : List ℕ) (it : Items) : Type 0 where
  pub within : it.next ≤ count_of s
  pub sheet : it.sheet.now ≡ s
  pub count : it.count ≡ count_of s
  pub fits : count_of s < 65536

-- a turn: there is an item, and its bytes come
pub record Turn (s : List ℕ) (b : List ℕ) (it to : Items) : Type 0 where
  pub more : it.next < count_of s
  pub bytes : b ≡ bytes_at s it.next
  pub next : to.next ≡ it.next + 1
  pub after : ItemsOf s to

pub turn : {s : List ℕ} {it : Items} → ItemsOf s it → (b : Bor (List ℕ)) (to : Items) → NextGives it (Some b) to → Turn s b.now it to
turn {s} {it} i b to g =
    record {
      more = omega (arith, i.count, g.2.0);
      bytes = g.2.2 ∙ ap (λ (t : List ℕ). bytes_at t it.next) i.sheet;
      next = g.2.1;
      after =
          record {
            within = omega (arith, i.count, g.2.0, g.2.1);
            sheet = ap (λ (t : Bor (List ℕ)). t.now) g.0 ∙ i.sheet;
            count = g.1 ∙ i.count;
            fits = i.fits;
          };
    }

-- after the last one no item is left
pub end : {s : List ℕ} {it : Items} → ItemsOf s it → (to : Items) → NextGives it None to → count_of s ≤ it.next
end i to g = omega (arith, i.count, g.2.0)
