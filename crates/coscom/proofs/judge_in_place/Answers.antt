use Rattle.coscom.proofs.CodeLaws.{left_err, left_told}
use Rattle.coscom.proofs.judge_in_place.Goals as goal

pub returns-in_err-found-clause-body_after : goal.returns-in_err-found-clause-body_after
returns-in_err-found-clause-body_after c = left_err _ _ c.in_err-found.ensures

pub returns-clause-body_after : goal.returns-clause-body_after
returns-clause-body_after c = left_told _ _ _ c.in_ok-found.ensures c.shift.ensures
