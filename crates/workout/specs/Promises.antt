-- What a call is answered and leaves, over plain values.
use Rattle.std.specs.Prelude.{ℕ, ◌^◌, ◌<◌, ◌≡◌, List}
use Rattle.answer.specs.Answer.{Answer}
use Rattle.answer.specs.Draft.{Writes}
use Rattle.numbers.specs.Number.{Bytes}
use Rattle.workout.specs.Limits.{Limits}
use Rattle.workout.specs.Workout.{Programmed, watts_of}
use Rattle.workout.specs.Answers.{workout_answer, workout_draft, workout_frame_draft}

-- Reading contents: the answer, and what every call shows of its contents, that they are bytes.
pub record ReadsWorkout (limits : Limits) (contents : List ℕ) (a : Answer Programmed) : Type 0 where
  pub answered : a ≡ workout_answer limits contents
  pub bytes : Bytes contents

-- Writing a workout: the answer, the output before and after, and what every call shows of its workout, that the watts
-- have 16 bits.
pub record WritesWorkout (limits : Limits) (w : Programmed) (out : List ℕ) (a : Answer ℕ) (last : List ℕ)
    : Type 0 where
  pub writes : Writes (workout_draft limits w) out a last
  pub power : watts_of w < 2 ^ 16

-- Writing a workout in a frame to an address: the answer, the output before and after, and the same of the watts.
pub record WritesWorkoutFrame (limits : Limits) (to : ℕ) (w : Programmed) (out : List ℕ) (a : Answer ℕ)
    (last : List ℕ) : Type 0 where
  pub writes : Writes (workout_frame_draft limits to w) out a last
  pub power : watts_of w < 2 ^ 16
