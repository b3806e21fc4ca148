-- The claims about every compacted sheet hold. Assumes nothing.
use Prim.Native.Nat.{ℕ, ◌≤◌, max}
use mathlib.Core.Bool.{true}
use mathlib.Core.List.{List, [], ◌∷◌, map}
use mathlib.Core.Path.{◌≡◌, sym, ap, ap₂, ◌∙◌, refl}
use native.Mathlib.Omega.{arith}
use lib.Ieee.{Float}
use lib.ListN.{length, take}
use Rattle.sheet.specs.Check.{verdict, sheet_check}
use Rattle.encode.specs.Encode.{encoded}
use Rattle.redraw.specs.declared.Answer.{Answer}
use Rattle.redraw.specs.declared.Reply.{Reply}
use Rattle.redraw.specs.Drawing as drawing
use Rattle.redraw.specs.Drawing.{Clips, only, after}
use Rattle.redraw.specs.Sheet.{Sheet, read, canvas, painting, accepted, fresh}
use Rattle.redraw.specs.Calls.{Painted}
use Rattle.redraw.specs.Shed.{shed, shed_of}
use Rattle.redraw.proofs.Lists.{zero_accepted, paint_numbered, always}
use Rattle.redraw.proofs.Shed.{shed_by, shed_fresh, shed_twice, shed_served, shed_same, shed_shown}
use Rattle.items.specs.Format.{kind, bytes_of, item_need, needs, format, zero_word, sheet_of, reading}
use Rattle.items.proofs.Lawful.{within, lawful}
use Rattle.items.proofs.Readings.{reads_accepted}
use Rattle.compact.specs.Compact.{kept_in, compacted}
use Rattle.compact.specs.Sheds.{SamePixels, Sheds}
use Rattle.compact.proofs.Kept.{shorter, head_kept, checked, sheet_kept}

-- the items that stay need no more than all
shed_needs : (r : List (drawing.Item (List ℕ))) (c : Clips) → needs (shed kind r c) ≤ needs r
unfolding needs shed
shed_needs [] c = omega arith
shed_needs (i ∷ r) c =
    let rest = shed_needs r (after i c) in
    shed_by kind (λ (l : List (drawing.Item (List ℕ))). needs l ≤ max (item_need i) (needs r)) i r c (λ p. omega arith) (λ p. omega arith)

compacted_is : (s : List ℕ) → compacted s ≡ encoded (take 8 s) (kept_in s)
unfolding compacted
compacted_is s = refl

-- a painting that returned 0 was accepted
painted : (s : List ℕ) (pitch : ℕ) (px : List ℕ) (u : List Float) (a : Reply) (px' : List ℕ) (u' : List Float)
    → Painted zero_word format s pitch px u a px' u' → a.answer.number ≡ 0 → accepted (painting format s pitch (length px) (length u)) ≡ true
painted s pitch px u a px' u' p z =
    zero_accepted (painting format s pitch (length px) (length u)) (paint_numbered format lawful s pitch (length px) (length u))
    (ap (λ (b : Answer). b.number) (sym p.answers) ∙ z)

module _ (s : List ℕ) (e : sheet_check s ≡ verdict 0 0) where
  abbrev t : List ℕ
  t = compacted s

  whole : reading s ≡ read (sheet_of s)
  whole = reads_accepted s e

  without : reading t ≡ read (shed_of kind (sheet_of s))
  without = reads_accepted t (checked s e) ∙ ap read (sheet_kept s e)

  less : needs (shed_of kind (sheet_of s)).items ≤ needs (sheet_of s).items
  less = shed_needs (sheet_of s).items (only (canvas (sheet_of s)))

  paints : SamePixels s t
  paints =
      record {
        from_nothing = ap (λ (q : Sheet (List ℕ)). fresh kind q) (sheet_kept s e) ∙ shed_fresh kind (sheet_of s);
        served = shed_served format (sheet_of s) s t whole without less;
        same = λ pitch px u v a b px' qx u' v' p q y z. shed_same format (sheet_of s) s t whole without within pitch px zero_word u v a b px' qx u' v' p q
            (painted s pitch px u a px' u' p y) (painted t pitch px v b qx v' q z);
        goes_on = λ pitch before px calls h f.
            always zero_word format lawful pitch before t px calls (shed_shown format (sheet_of s) s t whole without pitch before px h) f;
      }

  kept_again : kept_in t ≡ kept_in s
  unfolding kept_in canvas
  kept_again =
      ap (λ (q : Sheet (List ℕ)). map bytes_of (shed_of kind q).items) (sheet_kept s e)
      ∙ ap (λ (l : List (drawing.Item (List ℕ))). map bytes_of l) (shed_twice kind (sheet_of s).items (only (canvas (sheet_of s))))

  pub sheds : Sheds s
  sheds =
      record {
        reads = sheet_kept s e;
        checked = checked s e;
        paints = paints;
        again = compacted_is t ∙ ap₂ encoded (head_kept s e) kept_again ∙ sym (compacted_is s);
        shorter = shorter s e;
        need = omega (arith, less, ap (λ (q : Sheet (List ℕ)). needs q.items) (sheet_kept s e));
      }
