use Rattle.command.proofs.Errors.{passed_on}
use Rattle.reply.proofs.StatusLaws.{of_named, no_result, result_alone}
use Rattle.reply.proofs.status.Status.of.Goals as goal

pub returns-in_err-previous : goal.returns-in_err-previous
returns-in_err-previous c =
    let e = c.in_err-previous.ensures in
    rw (passed_on c.from_residual.result c.from_residual.ensures.1, e.0)
    (no_result c.args.toggle _ c.args.state e.1)

pub returns-in_err-state : goal.returns-in_err-state
returns-in_err-state c =
    let e = c.in_err-state.ensures in
    rw (passed_on c.from_residual-in_err-state.result c.from_residual-in_err-state.ensures.1, e.0)
    (result_alone c.args.toggle c.in_ok-previous.previous _ c.in_ok-previous.ensures e.1)

pub returns : goal.returns
returns c = of_named c.args.toggle _ _ c.in_ok-previous.ensures c.in_ok-state.ensures
