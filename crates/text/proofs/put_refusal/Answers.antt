-- `text::put_refusal` meets its contract. Assumes nothing.
use Rattle.text.proofs.Runs.{refusal_put}
use Rattle.text.proofs.put_refusal.Goals as goal

pub returns : goal.returns
returns c =
    refusal_put c.args.number c.args.item c.args.out.now c.requires _ _
    c.put_decimal-at.ensures.value.0
    c.put_decimal-end.ensures.value.0
    c.put.ensures
    c.put_decimal-at.ensures.out_after
    c.put-2.ensures
    c.put_decimal-end.ensures.out_after
    c.put-3.ensures
