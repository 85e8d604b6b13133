use mathlib.Core.Path.{◌∙◌}
use Rattle.workout.specs.Private.{limits_of}
use Rattle.workout.specs.Workout.{within_limits}
use Rattle.workout.proofs.WriteLaws.{by_goal}
use Rattle.workout.proofs.limits.Limits.admits.Goals as goal

pub returns-in-Distance : goal.returns-in-Distance
unfolding within_limits
returns-in-Distance c =
    let a = c.args in
    c.hold.ensures ∙ by_goal (within_limits (limits_of a.self)) a.workout
    c.in-Distance.is

pub returns-in-Time : goal.returns-in-Time
unfolding within_limits
returns-in-Time c =
    let a = c.args in
    c.hold-in-Time.ensures
    ∙ by_goal (within_limits (limits_of a.self)) a.workout c.in-Time.is
