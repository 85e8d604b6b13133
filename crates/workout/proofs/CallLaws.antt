-- What follows for any reading and any writing call, over plain values.
use Prim.Native.Nat.{ℕ, ◌≤◌}
use mathlib.Core.Path.{◌≡◌, sym, ap, ◌∙◌}
use mathlib.Core.List.{List}
use native.Mathlib.Omega.{arith}
use lib.ListN.{take}
use Rattle.lists.specs.Choice.{Exactly}
use Rattle.lists.proofs.Cases.{exactly}
use Rattle.answer.specs.Answer.{Answer, result}
use Rattle.answer.proofs.Drafts.{written_first}
use Rattle.workout.specs.Limits.{Limits, pm3_limits}
use Rattle.workout.specs.Workout.{Programmed, Sendable}
use Rattle.workout.specs.Answers.{workout_answer, workout_frame_draft}
use Rattle.workout.specs.Promises.{ReadsWorkout, WritesWorkout, WritesWorkoutFrame}
use Rattle.workout.specs.Conditions.{WithinLimits, Readable, WorkoutJudged}
use Rattle.workout.specs.Encoding.{Encoded}
use Rattle.workout.proofs.FrameLaws.{frame_draft_short}
use Rattle.workout.proofs.Table.{read_by_table, read_exactly, written_within}
use Rattle.workout.proofs.EncodingLaws.{encoded_read, read_encoded}
use Rattle.workout.proofs.RoundTrip.{written_workout_reads_back, pm3_sendable}

module _ (limits : Limits) (c : List ℕ) (a : Answer Programmed) (k : ReadsWorkout limits c a) where
  -- A call that reads is answered exactly as document 01's table says.
  pub reads_by_table : (b : Answer Programmed) → Exactly (a ≡ b) (WorkoutJudged limits c b)
  reads_by_table b = exactly k.answered (read_by_table limits c b)

  -- It is answered with a workout exactly when form and limits hold, and then with that workout.
  pub reads_exactly : (w : Programmed) → Exactly (a ≡ result w) (Readable limits c w)
  reads_exactly w = exactly k.answered (read_exactly limits c w)

  -- It is answered with a workout exactly when the contents stand for it and it is within the limits.
  pub reads_encoded : (w : Programmed) → Exactly (a ≡ result w) (Encoded w c × WithinLimits limits w)
  reads_encoded w =
      exactly k.answered (read_encoded c k.bytes limits w, λ p. encoded_read limits w c p.0 p.1)

-- What a call wrote is read back by any call on the bytes that were written, if they can hold the goal.
pub writes_read_back : (limits : Limits) (w : Programmed) (out last : List ℕ) (n : ℕ) (a : Answer Programmed)
    → Sendable w → WritesWorkout limits w out (result n) last → ReadsWorkout limits (take n last) a → a ≡ result w
writes_read_back limits w out last n a g k r =
    r.answered ∙ ap (λ (l : List ℕ). workout_answer limits (take n l)) k.writes.1
    ∙ written_workout_reads_back limits w out n g k.power (sym k.writes.0)

-- Within document 01's limits they can hold every goal.
pub pm3_writes_read_back : (w : Programmed) (out last : List ℕ) (n : ℕ) (a : Answer Programmed)
    → WritesWorkout pm3_limits w out (result n) last → ReadsWorkout pm3_limits (take n last) a → a ≡ result w
pm3_writes_read_back w out last n a k =
    writes_read_back pm3_limits w out last n a
    (pm3_sendable w (written_within pm3_limits w out n (sym k.writes.0))) k

-- A frame that a call wrote has at most 54 bytes.
pub frame_writes_short : (limits : Limits) (to : ℕ) (w : Programmed) (out last : List ℕ) (n : ℕ)
    → WritesWorkoutFrame limits to w out (result n) last → n ≤ 54
frame_writes_short limits to w out last n k =
    let f = written_first (workout_frame_draft limits to w) out n (sym k.writes.0) in
    omega (arith, f.2, frame_draft_short limits to w f.0 f.1)
