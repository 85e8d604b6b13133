-- Each return is told by the workout's draft: what the tests before it found, and what `copy_from_slice` ensures.
use mathlib.Core.Path.{◌∙◌}
use native.Mathlib.Omega.{arith}
use Rattle.std.proofs.lemmas.Result.{err_from_is_err_and}
use Rattle.answer.proofs.Drafts.{writes_no_room}
use Rattle.workout.specs.Private.{limits_of}
use Rattle.workout.specs.Workout.{programmed}
use Rattle.workout.proofs.WriteLaws.{contents_length, outside_written, draft_outside, draft_inside, write_done}
use Rattle.workout.proofs.limits.Limits.write.Goals as goal

pub returns-in_err-admit : goal.returns-in_err-admit
returns-in_err-admit c =
    let p = err_from_is_err_and c.from_residual.result c.from_residual.ensures.1 in
    let t =
    outside_written (limits_of c.args.self) (programmed c.args.workout) _ _ c.args.out.now c.in_err-admit.ensures
    (draft_outside (limits_of c.args.self) (programmed c.args.workout)) in
    record { result_value = rw (p.1, p.2) t.0; out_after = t.1 }

pub returns-then-out-lt-LEN : goal.returns-then-out-lt-LEN
returns-then-out-lt-LEN c =
    let w = programmed c.args.workout in
    let t =
    writes_no_room _ _ c.args.out.now (draft_inside (limits_of c.args.self) w c.in_ok-admit.ensures)
    (omega (arith, contents_length w)) in
    record { result_value = t.0; out_after = t.1 }

pub returns : goal.returns
returns c =
    let w = programmed c.args.workout in
    let t =
    write_done (limits_of c.args.self) w c.args.out.now c.in_ok-admit.ensures c.if-out-lt-LEN.false
    (c.copy_from_slice.ensures.after ∙ c.contents.ensures) in
    record { result_value = t.0; out_after = t.1 }
