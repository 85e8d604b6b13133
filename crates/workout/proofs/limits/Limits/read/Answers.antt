use Rattle.std.proofs.lemmas.Result.{err_from_is_err_and}
use Rattle.workout.specs.Private.{limits_of}
use Rattle.workout.specs.Workout.{programmed}
use Rattle.workout.proofs.ReadLaws.{answer_refused, answer_outside, answer_inside}
use Rattle.workout.proofs.limits.Limits.read.Goals as goal

pub returns-in_err-workout : goal.returns-in_err-workout
returns-in_err-workout c =
    let p = err_from_is_err_and c.from_residual.result c.from_residual.ensures.1 in
    rw (p.1, p.2) (answer_refused (limits_of c.args.self) c.args.contents.now _ c.in_err-workout.ensures)

pub returns-in_err-admit : goal.returns-in_err-admit
returns-in_err-admit c =
    let p = err_from_is_err_and c.from_residual-in_err-admit.result c.from_residual-in_err-admit.ensures.1 in
    rw (p.1, p.2)
    (answer_outside (limits_of c.args.self) c.args.contents.now (programmed c.in_ok-workout.workout) _
    c.in_ok-workout.ensures c.in_err-admit.ensures)

pub returns : goal.returns
returns c =
    answer_inside (limits_of c.args.self) c.args.contents.now (programmed c.in_ok-workout.workout)
    c.in_ok-workout.ensures c.in_ok-admit.ensures
