-- The form of a workout's contents and its limits, each rule by itself, and the papers' tables of reading and writing
-- over them. The workout that contents say is `workout_as`, as in the answer. `Encoded` says apart from it which contents
-- stand for which workout.
use Rattle.std.specs.Prelude.{ℕ, ◌*◌, ◌≤◌, ◌<◌, ◌≡◌, ◌⊎◌, List, [], ◌∷◌, ◌++◌, length, get_or, drop}
use Rattle.answer.specs.Answer.{result, refused, Answer}
use Rattle.frame.specs.Frame.{wire_of}
use Rattle.workout.specs.Limits.{GoalLimits, Limits, ceil_div}
use Rattle.workout.specs.Workout.{Programmed, distance, time, command_of, identifier_of, workout_bytes, workout_frame}
use Rattle.workout.specs.Form.{bytes_at, workout_as}
use Rattle.workout.specs.declared.layout.GoalKind.{GoalKind}
use Rattle.workout.specs.declared.layout.GoalKind.TheVariants.{Distance, Time}

-- The bytes of `part` stand in `c` from index `at` on.
abbrev pub Stands : (at : ℕ) (part c : List ℕ) → Type 0
Stands at part c = bytes_at at (length part) c ≡ part

-- The unit of a distance is km or metres; the third byte of a time is free.
abbrev pub UnitKnown : GoalKind → ℕ → Type 0
UnitKnown Distance unit = (unit ≡ 0x21) ⊎ (unit ≡ 0x24)
UnitKnown Time seconds = Unit {0}

-- The form of contents with a goal of one kind.
pub record Formed (kind : GoalKind) (c : List ℕ) : Type 0 where
  pub long : length c ≡ 23
  pub goal : Stands 0 (command_of kind ∷ 0x03 ∷ []) c
  pub unit : UnitKnown kind (get_or c 4 0)
  pub split : Stands 5 (0x1A ∷ 0x07 ∷ 0x05 ∷ 0x05 ∷ identifier_of kind ∷ []) c
  pub power : Stands 14 (0x34 ∷ 0x03 ∷ []) c
  pub watts : Stands 18 (0x58 ∷ []) c
  pub last : Stands 19 (0x24 ∷ 0x02 ∷ 0x00 ∷ 0x00 ∷ []) c

-- The limits on a goal and its split, where `scale` units of the split make one of the goal.
pub record GoalWithin (limits : GoalLimits) (splits scale goal split : ℕ) : Type 0 where
  pub least : limits.least ≤ goal
  pub most : goal ≤ limits.most
  pub shortest : limits.shortest ≤ split
  pub longest : split ≤ limits.longest
  pub in_goal : split ≤ scale * goal
  pub few : ceil_div (scale * goal) split ≤ splits

abbrev pub WithinLimits : Limits → Programmed → Type 0
WithinLimits limits (distance goal split watts) = GoalWithin limits.distance limits.splits 1 goal split
WithinLimits limits (time goal split watts) = GoalWithin limits.time limits.splits 100 goal split

-- Minutes and seconds of a time are at most 59.
abbrev pub ClockRight : GoalKind → List ℕ → Type 0
ClockRight Distance c = Unit {0}
ClockRight Time c = (get_or c 3 0 ≤ 59) × (get_or c 4 0 ≤ 59)

-- The limits on contents that have the form.
pub record Limited (limits : Limits) (kind : GoalKind) (c : List ℕ) : Type 0 where
  pub clock : ClockRight kind c
  pub within : WithinLimits limits (workout_as kind c)

-- What document 01 asks of contents that are read as a workout.
pub record Readable (limits : Limits) (c : List ℕ) (w : Programmed) : Type 0 where
  pub kind : GoalKind
  pub form : Formed kind c
  pub limited : Limited limits kind c
  pub workout : w ≡ workout_as kind c

-- Document 01's table with its order: each answer with the rule that fails, where every rule before it holds.
pub data WorkoutJudged (limits : Limits) (c : List ℕ) : Answer Programmed → Type 0 where
  formless : ((kind : GoalKind) → Formed kind c → ⊥) → WorkoutJudged limits c (refused 13)
  over_limit : (kind : GoalKind) → Formed kind c → (Limited limits kind c → ⊥) → WorkoutJudged limits c (refused 12)
  readable : (w : Programmed) → Readable limits c w → WorkoutJudged limits c (result w)

-- What writing a workout is answered, and the output afterwards. Its limits come first, and the output's room is asked
-- for last. The contents stand first in the output, and all after them is as it was; a refusal changes nothing.
pub data WorkoutWritten (limits : Limits) (w : Programmed) (out : List ℕ) : Answer ℕ → List ℕ → Type 0 where
  outside : (WithinLimits limits w → ⊥) → WorkoutWritten limits w out (refused 12) out
  no_room : WithinLimits limits w → length out < 23 → WorkoutWritten limits w out (refused 1) out
  fits : WithinLimits limits w → 23 ≤ length out
      → WorkoutWritten limits w out (result 23) (workout_bytes w ++ drop 23 out)

-- Document 02's No. 9: what writing a workout in a frame to an address is answered, and the output afterwards. The
-- address comes first, then the limits, and the output's room is asked for last. The frame's bytes stand first in the
-- output, and all after them is as it was; a refusal changes nothing.
pub data WorkoutFrameWritten (limits : Limits) (to : ℕ) (w : Programmed) (out : List ℕ)
    : Answer ℕ → List ℕ → Type 0 where
  bad_address : ((0x01 ≤ to) × (to ≤ 0xFC) → ⊥) → WorkoutFrameWritten limits to w out (refused 9) out
  outside_limits : 0x01 ≤ to → to ≤ 0xFC → (WithinLimits limits w → ⊥)
      → WorkoutFrameWritten limits to w out (refused 12) out
  no_room_for_frame : 0x01 ≤ to → to ≤ 0xFC → WithinLimits limits w → length out < length (wire_of (workout_frame to w))
      → WorkoutFrameWritten limits to w out (refused 1) out
  frame_fits : 0x01 ≤ to → to ≤ 0xFC → WithinLimits limits w → length (wire_of (workout_frame to w)) ≤ length out
      → WorkoutFrameWritten limits to w out (result (length (wire_of (workout_frame to w))))
      (wire_of (workout_frame to w) ++ drop (length (wire_of (workout_frame to w))) out)
