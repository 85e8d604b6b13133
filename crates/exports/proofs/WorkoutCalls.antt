-- Demands 1 and 2 of the exported workout functions: calls of `csafe_write_distance_workout`,
-- `csafe_write_time_workout`, `csafe_write_distance_workout_frame` and `csafe_write_time_workout_frame`, known by nothing
-- but what their contracts tell a caller, with the answers that their numbers tell.
use Prim.Native.Nat.{ℕ, ◌≤◌}
use mathlib.Core.Path.{◌≡◌, refl, ap, ◌∙◌}
use mathlib.Core.Logic.{◌⊎◌}
use mathlib.Core.List.{List}
use lib.ListN.{length, take}
use contract.Lifetimes.{Lfts}
use denote.MutBor.{MutBor}
use Rattle.lists.specs.Choice.{Exactly}
use Rattle.lists.specs.Machine.{AnsweredBy}
use Rattle.framing.specs.Demand3.{feed}
use Rattle.frame.specs.Answers.{FrameOutline, extended_outline}
use Rattle.frame.specs.declared.Origin.{Origin}
use Rattle.frame.proofs.OriginLaws.{extended_named}
use Rattle.framing.specs.Located.{Located, located_reference}
use Rattle.candidate.specs.Outcome.{Outcome}
use Rattle.line.specs.Rowing.{located_rowing}
use Rattle.line.specs.Chunks.{told_alone}
use Rattle.line.specs.Reader.{AsNew}
use Rattle.line.proofs.WrittenTold.{reference_told_frame}
use Rattle.answer.specs.Answer.{Answer, result, refused}
use Rattle.workout.specs.Limits.{pm3_limits}
use Rattle.workout.specs.Workout.{Programmed, distance, time, workout_bytes, workout_frame}
use Rattle.workout.specs.Answers.{workout_answer}
use Rattle.workout.specs.Promises.{WritesWorkout, WritesWorkoutFrame}
use Rattle.workout.specs.Conditions.{WorkoutWritten, WorkoutFrameWritten}
use Rattle.workout.proofs.Table.{writes_exactly, frame_writes_exactly, frame_refusals}
use Rattle.workout.proofs.FrameBack.{frame_back, frame_reads_back}
use Rattle.workout.proofs.CallLaws.{pm3_writes_read_back, frame_writes_short}
use Rattle.workout.proofs.Calls.{CalledRead, call_reads}
use Rattle.exports.specs.Told.{told_written}
use Rattle.exports.specs.LentLine.{reader_of}
use Rattle.exports.proofs.ToldLaws.{workout_told, workout_frame_told}
use Rattle.exports.proofs.FrameCalls.{ExportedRead, exported_reads}
use Rattle.exports.proofs.LineCalls.{ExportedLine, exported_demand_3}
use Rattle.exports.proofs.csafe_write_distance_workout.Reads as write-distance-reads
use Rattle.exports.proofs.csafe_write_time_workout.Reads as write-time-reads
use Rattle.exports.proofs.csafe_write_distance_workout_frame.Reads as write-distance-frame-reads
use Rattle.exports.proofs.csafe_write_time_workout_frame.Reads as write-time-frame-reads

-- A call that writes a workout, by the function of its goal: the answer that its number tells, and the output before
-- and after.
pub data ExportedWorkout : Programmed → (out : List ℕ) → Answer ℕ → (last : List ℕ) → Type 0 where
  wrote_distance : {metres split watts : ℕ} (n : ℕ) (κs : Lfts 1) (out out' : MutBor (List ℕ))
      → write-distance-reads.Learnt κs (metres, (split, (watts, (out, tt)))) n (metres, (split, (watts, (out', tt))))
      → ExportedWorkout (distance metres split watts) out.now (told_written n) out'.now
  wrote_time : {seconds split watts : ℕ} (n : ℕ) (κs : Lfts 1) (out out' : MutBor (List ℕ))
      → write-time-reads.Learnt κs (seconds, (split, (watts, (out, tt)))) n (seconds, (split, (watts, (out', tt))))
      → ExportedWorkout (time seconds split watts) out.now (told_written n) out'.now

-- Each tells and leaves what the definitions say.
pub exported_workouts : {w : Programmed} {out last : List ℕ} {a : Answer ℕ} → ExportedWorkout w out a last
    → WritesWorkout pm3_limits w out a last
exported_workouts (wrote_distance {metres = metres} {split = split} {watts = watts} n κs out out' e) =
    record {
      writes = (workout_told n pm3_limits (distance metres split watts) (length out.now) e.0, e.1.0);
      power = e.1.1;
    }
exported_workouts (wrote_time {seconds = seconds} {split = split} {watts = watts} n κs out out' e) =
    record {
      writes = (workout_told n pm3_limits (time seconds split watts) (length out.now) e.0, e.1.0);
      power = e.1.1;
    }

-- A call is answered 12, 1 or the length, and leaves its output, exactly as document 01's table says.
pub exported_workout_exactly : {w : Programmed} {out last : List ℕ} {a : Answer ℕ} → ExportedWorkout w out a last
    → (b : Answer ℕ) (left : List ℕ) → Exactly ((a ≡ b) × (last ≡ left)) (WorkoutWritten pm3_limits w out b left)
exported_workout_exactly {w} {out} {last} {a} k b left =
    writes_exactly pm3_limits w out a b last left (exported_workouts k).writes

-- A workout that a call wrote is read back as itself by any call of the library's `read_workout` on the bytes that were
-- written.
pub exported_workout_reads_back : {w : Programmed} {out last : List ℕ} {n : ℕ} {a : Answer Programmed}
    → ExportedWorkout w out (result n) last → CalledRead (take n last) a → a ≡ result w
exported_workout_reads_back {w} {out} {last} {n} {a} k r =
    pm3_writes_read_back w out last n a (exported_workouts k) (call_reads r)

-- ---- in a frame

-- A call that writes a workout in a frame to an address, by the function of its goal: the answer that its number tells,
-- and the output before and after.
pub data ExportedWorkoutFrame : (to : ℕ) → Programmed → (out : List ℕ) → Answer ℕ → (last : List ℕ) → Type 0 where
  wrote_distance_frame : {to metres split watts : ℕ} (n : ℕ) (κs : Lfts 1) (out out' : MutBor (List ℕ))
      → write-distance-frame-reads.Learnt κs (to, (metres, (split, (watts, (out, tt))))) n
      (to, (metres, (split, (watts, (out', tt)))))
      → ExportedWorkoutFrame to (distance metres split watts) out.now (told_written n) out'.now
  wrote_time_frame : {to seconds split watts : ℕ} (n : ℕ) (κs : Lfts 1) (out out' : MutBor (List ℕ))
      → write-time-frame-reads.Learnt κs (to, (seconds, (split, (watts, (out, tt))))) n
      (to, (seconds, (split, (watts, (out', tt)))))
      → ExportedWorkoutFrame to (time seconds split watts) out.now (told_written n) out'.now

pub exported_workout_frames : {to : ℕ} {w : Programmed} {out last : List ℕ} {a : Answer ℕ}
    → ExportedWorkoutFrame to w out a last → WritesWorkoutFrame pm3_limits to w out a last
exported_workout_frames (wrote_distance_frame {to = to} {metres = metres} {split = split} {watts = watts} n κs out out' e) =
    record {
      writes = (workout_frame_told n pm3_limits to (distance metres split watts) (length out.now) e.0, e.1.0);
      power = e.1.1;
    }
exported_workout_frames (wrote_time_frame {to = to} {seconds = seconds} {split = split} {watts = watts} n κs out out' e) =
    record {
      writes = (workout_frame_told n pm3_limits to (time seconds split watts) (length out.now) e.0, e.1.0);
      power = e.1.1;
    }

-- A call is answered 9, 12, 1 or the length, and leaves its output, exactly as the table says.
pub exported_workout_frame_exactly : {to : ℕ} {w : Programmed} {out last : List ℕ} {a : Answer ℕ}
    → ExportedWorkoutFrame to w out a last
    → (b : Answer ℕ) (left : List ℕ)
    → Exactly ((a ≡ b) × (last ≡ left)) (WorkoutFrameWritten pm3_limits to w out b left)
exported_workout_frame_exactly {to} {w} {out} {last} {a} k b left =
    frame_writes_exactly pm3_limits to w out a b last left (exported_workout_frames k).writes

-- It is refused with 9, 12 or 1 alone.
pub exported_workout_frame_refusals : {to : ℕ} {w : Programmed} {out last : List ℕ} {n : ℕ}
    → ExportedWorkoutFrame to w out (refused n) last → (n ≡ 9) ⊎ (n ≡ 12) ⊎ (n ≡ 1)
exported_workout_frame_refusals {to} {w} {out} {last} {n} k =
    frame_refusals pm3_limits to w out n last ((exported_workout_frame_exactly k (refused n) last).0 (refl, refl))

-- A frame that a call wrote has at most 54 bytes.
pub exported_workout_frame_short : {to : ℕ} {w : Programmed} {out last : List ℕ} {n : ℕ}
    → ExportedWorkoutFrame to w out (result n) last → n ≤ 54
exported_workout_frame_short {to} {w} {out} {last} {n} k =
    frame_writes_short pm3_limits to w out last n (exported_workout_frames k)

-- The bytes that a workout went out in are read back by `csafe_read`, and by `read` at any origin, with room for 23 bytes:
-- the frame from 00 to the address, and its contents, by the library's `read_workout`, as the workout.
pub exported_workout_frame_reads_back : {o : Origin} {to : ℕ} {w : Programmed} {out last into left : List ℕ} {n : ℕ}
    {a : Answer FrameOutline}
    → ExportedWorkoutFrame to w out (result n) last → ExportedRead o (take n last) into a left → 23 ≤ length into
    → (a ≡ result (extended_outline to 0x00 23)) × ((b : Answer Programmed) → CalledRead (take 23 left) b → b ≡ result w)
exported_workout_frame_reads_back {o} {to} {w} {out} {last} {into} {left} {n} {a} k r room =
    let s = frame_back to w out last n (exported_workout_frames k) in
    let q = frame_reads_back o to w last n into a left s (exported_reads r) room in
    (q.0, λ b l. (call_reads l).answered ∙ ap (workout_answer pm3_limits) q.1 ∙ s.back)

-- Fed to `csafe_feed`, or to `feed` at any origin, in any chunks, from any reader that is as new, they are told as that
-- frame alone, at position 0, and its contents are read as the workout.
pub exported_workout_frame_told : {o : Origin} {to : ℕ} {w : Programmed} {out last : List ℕ} {n : ℕ}
    {outcomes : List (Located Outcome)}
    → ExportedWorkoutFrame to w out (result n) last
    → AnsweredBy (ExportedLine o) (λ l. AsNew o (reader_of o l)) (feed (take n last)) outcomes
    → (outcomes ≡ told_alone (workout_frame to w))
    × ((b : Answer Programmed) → CalledRead (workout_bytes w) b → b ≡ result w)
exported_workout_frame_told {o} {to} {w} {out} {last} {n} {outcomes} k l =
    let s = frame_back to w out last n (exported_workout_frames k) in (
      (exported_demand_3 o).same (feed (take n last)) outcomes l
          ∙ ap (λ (u : List ℕ). located_reference (located_rowing o) (feed u)) s.wire
          ∙ reference_told_frame o (workout_frame to w) (extended_named o) s.short,
      λ b c. (call_reads c).answered ∙ s.back,
    )
