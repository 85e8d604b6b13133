-- Each return is told by the workout's frame draft: what the tests before it found, and what `write_extended` ensures.
use mathlib.Core.Bool.{true, false}
use mathlib.Core.Path.{◌≡◌}
use borrow.Author.Rules.{rules}
use Rattle.std.proofs.lemmas.Result.{err_from_is_err_and}
use Rattle.answer.proofs.Drafts.{writes_refusal}
use Rattle.frame.specs.Address.{in_range}
use Rattle.workout.specs.Private.{limits_of}
use Rattle.workout.specs.Workout.{programmed}
use Rattle.workout.proofs.FrameLaws.{frame_bad_address, frame_outside, frame_written}
use Rattle.workout.proofs.WriteLaws.{outside_written}
use Rattle.workout.proofs.limits.Limits.write_frame.Goals as goal

pub returns-then-not-in_range : goal.returns-then-not-in_range
returns-then-not-in_range c =
    let out_of_range : in_range c.args.address ≡ false = search rules in
    let t =
    writes_refusal _ 9 c.args.out.now
    (frame_bad_address (limits_of c.args.self) c.args.address (programmed c.args.workout) out_of_range) in
    record { result_value = t.0; out_after = t.1 }

pub returns-in_err-admit : goal.returns-in_err-admit
returns-in_err-admit c =
    let range : in_range c.args.address ≡ true = search rules in
    let p = err_from_is_err_and c.from_residual.result c.from_residual.ensures.1 in
    let t =
    outside_written (limits_of c.args.self) (programmed c.args.workout) _ _ c.args.out.now c.in_err-admit.ensures
    (frame_outside (limits_of c.args.self) c.args.address (programmed c.args.workout) range) in
    record { result_value = rw (p.1, p.2) t.0; out_after = t.1 }

pub returns : goal.returns
returns c =
    let range : in_range c.args.address ≡ true = search rules in
    let t =
    frame_written (limits_of c.args.self) c.args.address (programmed c.args.workout) range c.in_ok-admit.ensures _
    c.args.out.now c.write_extended.new.out _ c.contents.ensures
    (c.write_extended.ensures.result_value, c.write_extended.ensures.out_after) in
    record { result_value = t.0; out_after = t.1 }
