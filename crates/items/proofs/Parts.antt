-- Bytes cut to the sheet's end. Assumes nothing.
use Prim.Native.Nat.{ℕ, ◌+◌, ◌-◌, ◌≤◌, min}
use mathlib.Core.Path.{◌≡◌, sym, ◌∙◌}
use mathlib.Core.List.{List}
use native.Mathlib.Nat.{add-sub_cancel_left, min-eq_left, min-le_right}
use native.Mathlib.Omega.{arith, min_cases}
use lib.ListN.{length, take, drop, length-drop, drop_of_length-le}
use lib.Seq.{take_all, take-nil}
use Rattle.sheet.specs.Check.{offset_of, length_of}
use Rattle.items.specs.Items.{Lies}

pub cut_order : (len at n : ℕ) → min at len ≤ min (at + n) len
cut_order len at n = omega arith

pub cut_inside : (len n : ℕ) → min n len ≤ len
cut_inside len n = min-le_right n len

module _ (s : List ℕ) (at n : ℕ) where
  abbrev Cut : Type 0
  Cut = take (min (at + n) (length s) - min at (length s)) (drop (min at (length s)) s) ≡ take n (drop at s)

  whole : at + n ≤ length s → min (at + n) (length s) ≡ at + n → Cut
  whole h e =
      let l : at ≤ length s = omega arith in
      rw (e, min-eq_left l, add-sub_cancel_left at n)

  part : length s ≤ at + n → min (at + n) (length s) ≡ length s → at ≤ length s → min at (length s) ≡ at → Cut
  part h e l f =
      rw (e, f)
      (take_all (length s - at) (drop at s) (omega (arith, length-drop at s))
      ∙ sym (take_all n (drop at s) (omega (arith, length-drop at s))))

  none : min (at + n) (length s) ≡ length s → length s ≤ at → min at (length s) ≡ length s → Cut
  none e l f = rw (e, f, drop_of_length-le s {i = length s} (omega arith), drop_of_length-le s l, take-nil, take-nil)

  -- n bytes from a place on, that place and the place after them brought to the end where they pass it
  pub cut_part : Cut
  cut_part =
      min_cases (at + n) (length s) Cut whole
      (λ h e. min_cases at (length s) Cut (λ l f. part h e l f) (λ l f. none e l f))

-- where the item k lies
pub lies : (s : List ℕ) (k from to : ℕ) → from ≡ min (offset_of s k) (length s) → to ≡ min (offset_of s k + length_of s k) (length s) → Lies s k from to
lies s k from to p q =
    rw (p, q)
    (record {
      order = cut_order (length s) (offset_of s k) (length_of s k);
      inside = cut_inside (length s) (offset_of s k + length_of s k);
      bytes = cut_part s (offset_of s k) (length_of s k);
    })
