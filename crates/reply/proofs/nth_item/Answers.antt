use Rattle.command.proofs.Errors.{passed_on}
use Rattle.reply.proofs.ReplyLaws.{headed, item_is, item_refused_lem}
use Rattle.reply.proofs.nth_item.Goals as goal

pub returns-in_err-head : goal.returns-in_err-head
returns-in_err-head c =
    rw (passed_on c.from_residual.result c.from_residual.ensures.1)
    (item_refused_lem _ c.args.n _ (headed _ c.in_err-head.ensures))

pub returns : goal.returns
returns c = item_is c.args.contents.now c.args.n _ _ _ (headed _ c.in_ok-head.ensures) c.nth.ensures
