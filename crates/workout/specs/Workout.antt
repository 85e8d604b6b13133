-- A programmed workout and its bytes: document 01, "Workout card".
use Rattle.std.specs.Prelude.{ℕ, ◌/◌, ◌%◌, ◌≤◌, ◌≡◌, Bool, true, List, [], ◌∷◌, ◌++◌, leb, eqb}
use Rattle.lists.specs.Choice.{pick}
use Rattle.numbers.specs.Number.{bytes_of}
use Rattle.frame.specs.Frame.{Frame, extended}
use Rattle.workout.specs.Limits.{Limits, within_goal}
use Rattle.workout.specs.declared.Workout.{Workout}
use Rattle.workout.specs.declared.Goal.{Goal}
use Rattle.workout.specs.declared.Goal.TheVariants.{Distance, Time}
use Rattle.workout.specs.declared.layout.GoalKind.{GoalKind}
use Rattle.workout.specs.declared.layout.GoalKind.TheVariants.{Distance as OfDistance, Time as OfTime}

-- A workout as plain numbers (document 01: a card). A distance and its split are in metres, a time is in seconds and
-- its split in hundredths of a second.
pub data Programmed : Type 0 where
  distance : (goal split watts : ℕ) → Programmed
  time : (goal split watts : ℕ) → Programmed

abbrev pub goal_means : Goal → ℕ → Programmed
goal_means (Distance goal split) watts = distance goal.0 split.0 watts
goal_means (Time goal split) watts = time goal.0 split.0 watts

abbrev pub programmed : Workout → Programmed
programmed w = goal_means w.goal w.watts

abbrev pub watts_of : Programmed → ℕ
watts_of (distance goal split watts) = watts
watts_of (time goal split watts) = watts

-- Whether it is within the limits. A distance and its split have one unit; a second is 100 hundredths.
unfoldable pub within_limits : Limits → Programmed → Bool
within_limits limits (distance goal split watts) = within_goal limits.distance limits.splits 1 goal split
within_limits limits (time goal split watts) = within_goal limits.time limits.splits 100 goal split

-- ---- the bytes

-- The command that sets the goal.
abbrev pub command_of : GoalKind → ℕ
command_of OfDistance = 0x21
command_of OfTime = 0x20

-- The identifier of the split.
abbrev pub identifier_of : GoalKind → ℕ
identifier_of OfDistance = 0x80
identifier_of OfTime = 0x00

-- The 23 bytes, with the three of the goal, the four of the split and the two of the power. The commands are one that
-- sets the goal, a wrapper round the one that sets the split, one that sets the power in watts, and one that selects
-- the programmed workout.
unfoldable pub layout : GoalKind → (goal split power : List ℕ) → List ℕ
layout kind goal split power =
    (command_of kind ∷ 0x03 ∷ goal)
    ++ ((0x1A ∷ 0x07 ∷ 0x05 ∷ 0x05 ∷ identifier_of kind ∷ split)
    ++ ((0x34 ∷ 0x03 ∷ power ++ (0x58 ∷ []))
    ++ (0x24 ∷ 0x02 ∷ 0x00 ∷ 0x00 ∷ [])))

-- A distance low, high and its unit: km where it is a whole number of km, else metres.
unfoldable pub distance_bytes : ℕ → List ℕ
distance_bytes metres =
    pick (eqb (metres % 1000) 0) (bytes_of 2 (metres / 1000) ++ (0x21 ∷ [])) (bytes_of 2 metres ++ (0x24 ∷ []))

-- Hours, minutes and seconds.
unfoldable pub time_bytes : ℕ → List ℕ
time_bytes seconds = bytes_of 1 (seconds / 3600) ++ (seconds / 60 % 60 ∷ seconds % 60 ∷ [])

-- The contents of a workout.
unfoldable pub workout_bytes : Programmed → List ℕ
workout_bytes (distance goal split watts) = layout OfDistance (distance_bytes goal) (bytes_of 4 split) (bytes_of 2 watts)
workout_bytes (time goal split watts) = layout OfTime (time_bytes goal) (bytes_of 4 split) (bytes_of 2 watts)

-- The frame that a workout goes out in, from 00 to an address: document 02, No. 9.
abbrev pub workout_frame : ℕ → Programmed → Frame
workout_frame to w = extended to 0x00 (workout_bytes w)

-- ---- what the bytes can hold

-- Whether a distance can be sent: 16 bits hold it in its unit, km where it is a whole number of km, else metres.
unfoldable pub distance_sendable : ℕ → Bool
distance_sendable metres = pick (eqb (metres % 1000) 0) (leb (metres / 1000) 65535) (leb metres 65535)

-- Whether the bytes can hold a goal: a distance that can be sent, or hours of 8 bits. Document 01's limits let no other
-- goal through. The watts have no part in it.
abbrev pub Sendable : Programmed → Type 0
Sendable (distance goal split watts) = distance_sendable goal ≡ true
Sendable (time goal split watts) = goal / 3600 ≤ 255
