-- What the counts tell: `Busy`, of any lawful format. Assumes nothing.
use mathlib.Core.List.{List, [], ◌∷◌}
use mathlib.Core.Path.{◌≡◌, refl, sym, ap, ◌∙◌}
use mathlib.Core.Bool.{true}
use Prim.Native.Nat.{ℕ, ◌+◌, ◌*◌, ◌≤◌, ◌<◌}
use native.Mathlib.Nat.{mul_comm}
use native.Mathlib.Omega.{arith}
use lib.Arith.{digits_lt, digits_div, digits_mod}
use lib.IntN.{pos}
use lib.ListN.{length, replicate, length-replicate, get_or-replicate}
use Rattle.geom.specs.Box.{inside}
use Rattle.geom.proofs.Int.{order_z}
use Rattle.geom.proofs.Boxes.{inside_of}
use Rattle.draw.proofs.Counts.{differ_none}
use Rattle.draw.proofs.Parts.{alters_none}
use Rattle.geom.specs.declared.IRect.{IRect}
use Rattle.redraw.specs.Drawing.{Item, push, pop, shape, Clips, only, after, item_on, items_on, ground_in}
use Rattle.redraw.specs.Sheet.{Format, Lawful, Sheet, Outcome, refuses, draws, canvas, pixels}
use Rattle.redraw.specs.Counts.{item_alters, items_alter, steps_of, grounds_of, fresh_steps}
use Rattle.redraw.specs.Calls.{Busy}
use Rattle.redraw.proofs.Items.{none, length_ground, word_ground}
use Rattle.redraw.proofs.Lists.{paint_accepted, read_one, past_width}
use Rattle.redraw.proofs.Layouts.{SameRows, same_steps}

-- ---- the steps of a painting, whatever px held and whatever its pitch

-- px with the canvas set to the ground has the words of a canvas of the ground alone
grounded : {Shape : Type 0} (s : Sheet Shape) (pitch : ℕ) (px : List ℕ) → s.w ≤ pitch → length px ≡ pitch * s.h
    → SameRows pitch s.w s.h (ground_in pitch (canvas s) s.ground_pixel px) (replicate (s.w * s.h) s.ground_pixel)
unfolding canvas
grounded s pitch px room n =
    record {
      long = length_ground pitch (canvas s) s.ground_pixel px ∙ n ∙ mul_comm pitch s.h;
      short = length-replicate (s.w * s.h) s.ground_pixel ∙ mul_comm s.w s.h;
      words = λ x y k l. let m : x < pitch = omega arith in
          let here : inside (canvas s) (pos x) (pos y) ≡ true = inside_of _ (pos x) (pos y) (omega order_z) in
          word_ground pitch (canvas s) s.ground_pixel px (y * pitch + x) (rw (n ∙ mul_comm pitch s.h) (digits_lt l m))
          ∙ rw (digits_mod y m, digits_div y m, here) (sym (get_or-replicate (s.w * s.h) (y * s.w + x) s.ground_pixel 0 (rw (mul_comm s.w s.h) (digits_lt l k))));
    }

pub fresh_steps_lem : (F : Format) (s : Sheet F.kind.Shape) (pitch : ℕ) (px : List ℕ) → s.w ≤ pitch → length px ≡ pitch * s.h
    → steps_of F.kind pitch (draws s (canvas s)) px ≡ fresh_steps F.kind s
unfolding steps_of fresh_steps
fresh_steps_lem F s pitch px room n =
    same_steps room F.kind s.items (only (canvas s)) _ _ (grounded s pitch px room n) (λ x y k. record { clips = past_width s x y k; saves = none })

-- ---- no count, no pixel altered

module _ (F : Format) (law : Lawful F) (pitch : ℕ) where
  item_quiet : (i : Item F.kind.Shape) (c : IRect) (px : List ℕ) → item_alters F.kind pitch i c px ≡ 0 → item_on F.kind pitch i c px ≡ px
  unfolding item_alters item_on
  item_quiet (push s b) c px e = refl
  item_quiet (pop s) c px e = refl
  item_quiet (shape a) c px e = sym (law.whole a pitch c px) ∙ alters_none pitch c (F.kind.parts a) px e

  items_quiet : (l : List (Item F.kind.Shape)) (c : Clips) (px : List ℕ) → items_alter F.kind pitch l c px ≡ 0 → items_on F.kind pitch l c px ≡ px
  unfolding items_alter items_on
  items_quiet [] c px e = refl
  items_quiet (i ∷ l) c px e =
      items_quiet l (after i c) (item_on F.kind pitch i c.clip px) (omega arith) ∙ item_quiet i c.clip px (omega arith)

pub quiet : (F : Format) → Lawful F → (pitch : ℕ) (o : Outcome F.kind.Shape) (px : List ℕ) → steps_of F.kind pitch o px ≡ 0 → grounds_of F.kind pitch o px ≡ 0
    → pixels F.kind pitch o px ≡ px
unfolding steps_of grounds_of pixels
quiet F law pitch (refuses n k) px e g = refl
quiet F law pitch (draws s box) px e g =
    items_quiet F law pitch s.items (only box) _ e ∙ differ_none px _ (length_ground pitch box s.ground_pixel px) g

pub busy : {Word : Type 0} (zero_word : Word) (F : Format) → Lawful F → Busy zero_word F
busy zero_word F law = record {
  fresh = λ s sheet pitch px scratch a px' scratch' p r e. let q = paint_accepted F sheet pitch (length px) (length scratch) e in
      let same : q.held ≡ s = read_one q.reads r in
      p.steps ∙ ap (λ (o : Outcome F.kind.Shape). steps_of F.kind pitch o px) q.is
      ∙ fresh_steps_lem F q.held pitch px q.lends.frame.rows.room q.lends.frame.long ∙ ap (fresh_steps F.kind) same;
  quiet = λ pitch o px scratch a px' scratch' d s g. d.paints ∙ quiet F law pitch o px (sym d.steps ∙ s) (sym d.grounds ∙ g);
}
