use Rattle.std.proofs.Common.{sym, ap, ◌∙◌}
use Rattle.command.proofs.Errors.{passed_on}
use Rattle.reply.specs.Replies.{reply_answer}
use Rattle.reply.proofs.ReplyLaws.{headed, read_refused, items_unsound, items-counted}
use Rattle.reply.proofs.read_reply.Goals as goal

pub returns-in_err-status : goal.returns-in_err-status
returns-in_err-status c =
    rw (passed_on c.from_residual.result c.from_residual.ensures.1)
    (read_refused _ _ (headed _ c.in_err-status.ensures))

pub returns-in_err-items : goal.returns-in_err-items
returns-in_err-items c =
    rw (passed_on c.from_residual-in_err-items.result c.from_residual-in_err-items.ensures.1)
    (items_unsound _ _ _ _ _ _ (sym c.in_err-items.ensures)
    ∙ sym (ap reply_answer (headed c.args.contents.now c.in_ok-status.ensures)))

pub returns : goal.returns
returns c =
    items-counted _ _ _ _ _ _ (sym c.in_ok-items.ensures)
    ∙ sym (ap reply_answer (headed c.args.contents.now c.in_ok-status.ensures))
