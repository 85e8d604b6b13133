use Rattle.workout.specs.Limits.{pm3_limits}
use Rattle.workout.specs.Workout.{programmed}
use lib.ListN.{length}
use Rattle.exports.proofs.AnswerLaws.{workout_frame_short}
use Rattle.exports.specs.Answers.{WriteShort}
use mathlib.Core.Path.{sym, subst}
use Rattle.exports.proofs.write_workout_frame.Goals as goal

pub of_written-requires : goal.of_written-requires
of_written-requires c =
    let a = c.args in
    subst WriteShort (sym c.write_workout_frame-written.ensures.result_value)
    (workout_frame_short pm3_limits a.address (programmed a.workout) (length a.out.now))
