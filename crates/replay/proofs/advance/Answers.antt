-- `replay::advance` meets its contract. Assumes nothing.
use Rattle.replay.proofs.Laws.{advanced_new, advanced_old}
use Rattle.replay.proofs.advance.Goals as goal

pub returns-then-reply-eq0 : goal.returns-then-reply-eq0
returns-then-reply-eq0 c =
    advanced_new c.args.sheets.now c.args.kept c.args.at c.args.end c.args.pitch _ _ _ _ _ c.patch-reply.ensures c.requires.2 c.requires.3 c.if-reply-eq0.true

pub returns-else-reply-eq0 : goal.returns-else-reply-eq0
returns-else-reply-eq0 c =
    advanced_old c.args.sheets.now c.args.kept c.args.at c.args.end c.args.pitch _ _ _ _ _ c.patch-reply.ensures c.requires.0 c.requires.1 c.if-reply-eq0.false
