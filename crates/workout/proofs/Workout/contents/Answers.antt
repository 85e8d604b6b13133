use mathlib.Core.Path.{◌∙◌}
use Rattle.workout.specs.Workout.{workout_bytes}
use Rattle.workout.proofs.WriteLaws.{by_goal}
use Rattle.workout.proofs.Workout.contents.Goals as goal

pub returns-in-Distance : goal.returns-in-Distance
unfolding workout_bytes
returns-in-Distance c =
    rw c.distance_bytes-bytes.ensures at c.lay_out.ensures
    ∙ by_goal workout_bytes c.args.self
    c.in-Distance.is

pub returns-in-Time : goal.returns-in-Time
unfolding workout_bytes
returns-in-Time c =
    rw c.time_bytes-bytes.ensures at c.lay_out-in-Time.ensures
    ∙ by_goal workout_bytes c.args.self
    c.in-Time.is
