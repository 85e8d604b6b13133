-- What each case of an answer to reading means, in document 01's numbers, and what is answered. A writer answers as its
-- draft says.
use Rattle.std.specs.Prelude.{ℕ, List, Result, Ok, Err}
use Rattle.lists.specs.Choice.{pick}
use Rattle.answer.specs.Answer.{Answer, result, refused, through}
use Rattle.answer.specs.Draft.{Draft}
use Rattle.answer.specs.Refusals.{number_of}
use Rattle.frame.specs.Address.{in_range}
use Rattle.frame.specs.Frame.{wire_of, extended}
use Rattle.workout.specs.Limits.{Limits}
use Rattle.workout.specs.Workout.{Programmed, programmed, within_limits, workout_bytes}
use Rattle.workout.specs.Form.{has_form, in_limits, workout_in}
use Rattle.answer.specs.declared.Refusal.{Refusal}
use Rattle.workout.specs.declared.Workout.{Workout}

abbrev pub workout_means : Result Workout Refusal → Answer Programmed
workout_means (Ok w) = result (programmed w)
workout_means (Err why) = refused (number_of why)

-- The answer to reading contents: 13, then 12, then the workout.
unfoldable pub workout_answer : Limits → List ℕ → Answer Programmed
workout_answer limits c = pick (has_form c) (pick (in_limits limits c) (result (workout_in c)) (refused 12)) (refused 13)

-- The contents of a workout, or refusal 12.
unfoldable pub workout_draft : Limits → Programmed → Draft
workout_draft limits w = pick (within_limits limits w) (result (workout_bytes w)) (refused 12)

-- The wire bytes of the extended frame from 00 to an address whose contents are a workout, or a refusal: 9 where the
-- address is not 01 to FC, then the workout's own.
unfoldable pub workout_frame_draft : Limits → ℕ → Programmed → Draft
workout_frame_draft limits to w =
    pick (in_range to) (through (λ c. wire_of (extended to 0x00 c)) (workout_draft limits w)) (refused 9)
