-- `text::picture::picture` meets its contract. The first i bytes are the text's. Assumes nothing.
use Rattle.std.proofs.Common.{◌≡◌, refl, sym, ap, ◌∙◌, ◌*◌, length, add-one, arith, take_all}
use lib.Seq.{take-suc-set}
use Rattle.text.specs.Picture.{table, picture_of}
use Rattle.text.proofs.picture.picture.Goals as goal

pub loop-i-init : goal.loop-i-init
unfolding table
loop-i-init c = refl

pub loop-i-preserved : goal.loop-i-preserved
unfolding table
loop-i-preserved c =
    let l = c.loop-i in
    rw (add-one l.i) (take-suc-set l.out l.i _ (omega arith) ∙ rw (l.invariant, c.byte.ensures))

pub returns : goal.returns
unfolding picture_of
returns c =
    let l = c.loop-i in
    let e : l.i ≡ 9 * length c.args.px.now = omega arith in
    sym (take_all l.i l.out (omega arith)) ∙ l.invariant ∙ ap (table _) e
