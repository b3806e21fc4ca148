-- What painting leaves, as text: by its number the picture of px, or the refusal. Assumes nothing.
use Prim.Native.Nat.{ℕ, ◌<◌}
use mathlib.Core.Path.{◌≡◌, sym, ap, ◌∙◌}
use mathlib.Core.Bool.{true}
use mathlib.Core.List.{List}
use borrow.Author.Tests.{leb-true}
use lib.Dec.{leb}
use lib.Ieee.{Float}
use lib.ListN.{length}
use Rattle.geom.proofs.Bools.{and_left}
use Rattle.sheet.specs.Check.{width_of}
use Rattle.sheet.proofs.Accepted as sheets
use Rattle.redraw.specs.declared.Answer.{Answer}
use Rattle.redraw.specs.declared.Reply.{Reply}
use Rattle.redraw.specs.Sheet.{Sheet, Outcome, refuses, draws, painting, answer, refusal, accepted, fresh}
use Rattle.redraw.specs.Calls.{Painted}
use Rattle.redraw.proofs.Lists.{Paints, paint_accepted, paint_numbered, zero_accepted, shown_first}
use Rattle.items.specs.Format.{kind, sheet_of, format, zero_word}
use Rattle.items.proofs.Lawful.{lawful}
use Rattle.redraw.proofs.Frames.{shown_whole}
use Rattle.items.proofs.Readings.{read_is, reads_accepted}
use Rattle.text.specs.Picture.{picture_of}
use Rattle.text.specs.Text.{refusal_text, outcome_text}

refused_text : (o : Outcome (List ℕ)) (a : Answer) → a ≡ answer o → (a.number ≡ 0 → ⊥) → outcome_text o ≡ refusal_text a.number a.item
unfolding outcome_text answer refusal
refused_text (refuses n k) a e h = rw e
refused_text (draws s box) a e h = absurd (h (ap (λ (r : Answer). r.number) e))

drawn_text : (o : Outcome (List ℕ)) (s : Sheet (List ℕ)) {box : _} → o ≡ draws s box → outcome_text o ≡ picture_of s.w (fresh kind s)
unfolding outcome_text
drawn_text o s e = rw e

module _ (s px : List ℕ) (scratch : List Float) (a : Reply) (px' : List ℕ) (scratch' : List Float)
    (did : Painted zero_word format s (width_of s) px scratch a px' scratch') where
  abbrev outcome : Outcome (List ℕ)
  outcome = painting format s (width_of s) (length px) (length scratch)

  pub refusal_shown : (a.answer.number ≡ 0 → ⊥) → outcome_text outcome ≡ refusal_text a.answer.number a.answer.item
  refusal_shown h = refused_text outcome a.answer did.answers h

  module _ (zero : a.answer.number ≡ 0) where
    yes : accepted outcome ≡ true
    yes = zero_accepted outcome (paint_numbered format lawful s (width_of s) (length px) (length scratch)) (sym (ap (λ (r : Answer). r.number) did.answers) ∙ zero)

    drew : Paints format s (width_of s) (length px) (length scratch)
    drew = paint_accepted format s (width_of s) (length px) (length scratch) yes

    held_is : drew.held ≡ sheet_of s
    held_is = (read_is s drew.held drew.reads).1

    fresh_is : px' ≡ fresh kind (sheet_of s)
    fresh_is =
        shown_whole format px s px' (sheet_of s) (reads_accepted s (read_is s drew.held drew.reads).0)
        (shown_first zero_word format lawful s (width_of s) px scratch a px' scratch' did yes)

    pub picture_shown : outcome_text outcome ≡ picture_of (width_of s) px'
    picture_shown = drawn_text outcome drew.held drew.is ∙ rw (held_is, fresh_is)

    pub some_width : 0 < width_of s
    some_width = leb-true 1 (width_of s) (and_left (leb 1 (width_of s)) (leb (width_of s) 2048) (sheets.accepted s (read_is s drew.held drew.reads).0).width)
