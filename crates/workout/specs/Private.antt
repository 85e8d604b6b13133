-- Contracts of private functions, which no caller reads.
use Rattle.std.specs.Prelude.{ℕ, ◌+◌, ◌*◌, ◌≡◌, true, false, List, leb, eqb, get_or, Result, Ok, Err}
use Rattle.lists.specs.Choice.{pick}
use Rattle.numbers.specs.Number.{number}
use Rattle.answer.specs.Answer.{Answer, result, refused}
use Rattle.answer.specs.Refusals.{number_of}
use Rattle.answer.specs.declared.Refusal.{Refusal}
use Rattle.answer.specs.declared.Refusal.TheVariants.{OutOfLimits, NotWorkout}
use Rattle.workout.specs.Limits.{GoalLimits, Limits}
use Rattle.workout.specs.Workout.{Programmed, goal_means, within_limits}
use Rattle.workout.specs.Form.{goal_kind_in, has_form, clock_right, workout_in}
use Rattle.workout.specs.declared.Metres.{Metres}
use Rattle.workout.specs.declared.Seconds.{Seconds}
use Rattle.workout.specs.declared.Goal.{Goal}
use Rattle.workout.specs.declared.Goal.TheVariants.{Distance, Time}
use Rattle.workout.specs.declared.layout.GoalKind.{GoalKind}
use Rattle.workout.specs.declared.layout.GoalKind.TheVariants.{Distance as OfDistance, Time as OfTime}
use Rattle.workout.specs.declared.limits.GoalLimits.{GoalLimits as GoalNumbers}
use Rattle.workout.specs.declared.limits.Limits.{Limits as Numbers}

-- The limits that the code's numbers are.
abbrev pub goal_limits_of : GoalNumbers → GoalLimits
goal_limits_of n = record { least = n.least; most = n.most; shortest = n.shortest; longest = n.longest }

abbrev pub limits_of : Numbers → Limits
limits_of n = record { distance = goal_limits_of n.distance; time = goal_limits_of n.time; splits = n.splits }

-- A workout is let through exactly within the limits, and else refused with 12.
abbrev pub Admits : Limits → Programmed → Result (Unit {0}) Refusal → Type 0
Admits limits w (Ok u) = within_limits limits w ≡ true
Admits limits w (Err why) = (why ≡ OutOfLimits) × (within_limits limits w ≡ false)

-- The metres of a distance in one of the two units.
unfoldable pub metres_said : List ℕ → Result Metres Refusal
metres_said b =
    pick (eqb (get_or b 2 0) 0x21)
    (Ok (record { 0 = 1000 * number 2 0 b }))
    (pick (eqb (get_or b 2 0) 0x24) (Ok (record { 0 = number 2 0 b })) (Err NotWorkout))

-- The seconds of hours, minutes and seconds.
unfoldable pub seconds_said : List ℕ → Result Seconds Refusal
seconds_said b =
    pick (leb (get_or b 1 0) 59)
    (pick (leb (get_or b 2 0) 59)
    (Ok (record { 0 = 3600 * get_or b 0 0 + 60 * get_or b 1 0 + get_or b 2 0 }))
    (Err OutOfLimits))
    (Err OutOfLimits)

-- A goal with its split.
abbrev pub with_metres : ℕ → Result Metres Refusal → Result Goal Refusal
with_metres split (Ok goal) = Ok (Distance goal (record { 0 = split }))
with_metres split (Err why) = Err why

abbrev pub with_hundredths : ℕ → Result Seconds Refusal → Result Goal Refusal
with_hundredths split (Ok goal) = Ok (Time goal (record { 0 = split }))
with_hundredths split (Err why) = Err why

-- The goal that three bytes say.
abbrev pub goal_said : GoalKind → List ℕ → (split : ℕ) → Result Goal Refusal
goal_said OfDistance b split = with_metres split (metres_said b)
goal_said OfTime b split = with_hundredths split (seconds_said b)

-- A goal with its power.
abbrev pub with_watts : ℕ → Result Goal Refusal → Answer Programmed
with_watts watts (Ok goal) = result (goal_means goal watts)
with_watts watts (Err why) = refused (number_of why)

-- The workout that contents say, whatever the limits on it: 13 for another form, and 12 for a time that no clock shows.
unfoldable pub workout_said : List ℕ → Answer Programmed
workout_said c =
    pick (has_form c)
    (pick (clock_right (goal_kind_in c) (get_or c 3 0) (get_or c 4 0)) (result (workout_in c)) (refused 12))
    (refused 13)
