use Rattle.std.proofs.Common.{ap, ◌∙◌, length}
use Rattle.command.proofs.Errors.{passed_on}
use Rattle.answer.specs.Draft.{Draft, draft_answer, draft_out}
use Rattle.answer.proofs.Drafts.{writes_refusal}
use Rattle.reply.proofs.ReplyLaws.{prior_refused, prior_sound}
use Rattle.reply.proofs.write_item.Goals as goal

pub returns-in_err-read_reply-clause-value : goal.returns-in_err-read_reply-clause-value
returns-in_err-read_reply-clause-value c =
    let a = c.args in
    rw (passed_on c.from_residual.result c.from_residual.ensures.1)
    (writes_refusal _ _ a.out.now (prior_refused a.prior.now a.byte a.body.now _ c.in_err-read_reply.ensures)).0

pub returns-in_err-read_reply-clause-out_after : goal.returns-in_err-read_reply-clause-out_after
returns-in_err-read_reply-clause-out_after c =
    let a = c.args in
    (writes_refusal _ _ a.out.now (prior_refused a.prior.now a.byte a.body.now _ c.in_err-read_reply.ensures)).1

pub returns-clause-value : goal.returns-clause-value
returns-clause-value c =
    let a = c.args in
    let e = prior_sound a.prior.now a.byte a.body.now _ _ _ _ c.in_ok-read_reply.ensures in
    c.put_item.ensures.value ∙ ap (λ (d : Draft). draft_answer d (length a.out.now)) e

pub returns-clause-out_after : goal.returns-clause-out_after
returns-clause-out_after c =
    let a = c.args in
    let e = prior_sound a.prior.now a.byte a.body.now _ _ _ _ c.in_ok-read_reply.ensures in
    c.put_item.ensures.out_after ∙ ap (λ (d : Draft). draft_out d a.out.now) e
