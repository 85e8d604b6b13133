use Rattle.command.specs.Stop.{stops_within, stops_workout}
use Rattle.command.proofs.stop.stops_workout.Goals as goal

pub returns : goal.returns
unfolding stops_workout
returns c = c.any.ensures stops_within (λ byte body r k. k)
