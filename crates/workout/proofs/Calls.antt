-- Demands 1 and 2 of the functions themselves: calls of `read_workout`, `write_workout` and `write_workout_frame`,
-- known by nothing but what their contracts tell a caller.
use Prim.Native.Nat.{ℕ, ◌^◌, ◌≤◌}
use Rattle.std.specs.Prelude.{Result}
use mathlib.Core.Path.{◌≡◌, refl}
use mathlib.Core.Logic.{◌⊎◌}
use mathlib.Core.List.{List}
use lib.ListN.{take}
use contract.Lifetimes.{Lfts}
use denote.MutBor.{MutBor}
use denote.Ref.{Bor}
use Rattle.lists.specs.Choice.{Exactly}
use Rattle.answer.specs.Answer.{Answer, result, refused}
use Rattle.answer.specs.Draft.{written_means}
use Rattle.answer.specs.declared.Refusal.{Refusal}
use Rattle.workout.specs.Limits.{pm3_limits}
use Rattle.workout.specs.Workout.{Programmed, programmed}
use Rattle.workout.specs.Answers.{workout_means}
use Rattle.workout.specs.Promises.{ReadsWorkout, WritesWorkout, WritesWorkoutFrame}
use Rattle.workout.specs.Conditions.{WithinLimits, Readable, WorkoutJudged, WorkoutWritten}
use Rattle.workout.specs.Conditions.{WorkoutFrameWritten}
use Rattle.workout.specs.Encoding.{Encoded}
use Rattle.workout.specs.declared.Workout.{Workout}
use Rattle.workout.proofs.WriteLaws.{watts_below}
use Rattle.workout.proofs.Table.{writes_exactly, frame_writes_exactly, frame_refusals}
use Rattle.workout.proofs.CallLaws.{reads_by_table, reads_exactly, reads_encoded, pm3_writes_read_back}
use Rattle.workout.proofs.CallLaws.{frame_writes_short}
use Rattle.workout.proofs.read_workout.Reads as read-workout-reads
use Rattle.workout.proofs.write_workout.Reads as write-workout-reads
use Rattle.workout.proofs.write_workout_frame.Reads as write-workout-frame-reads

-- ---- calls

-- A call that reads contents: its answer.
pub data CalledRead : (contents : List ℕ) → Answer Programmed → Type 0 where
  read_contents : (r : Result Workout Refusal) (κs : Lfts 1) (contents : Bor (List ℕ))
      → read-workout-reads.Learnt κs (contents, tt) r (contents, tt)
      → CalledRead contents.now (workout_means r)

-- A call that writes a workout: its answer, and the output before and after.
pub data CalledWrite : Programmed → (out : List ℕ) → Answer ℕ → (last : List ℕ) → Type 0 where
  wrote_workout : (r : Result ℕ Refusal) (κs : Lfts 1) (w : Workout) (out out' : MutBor (List ℕ))
      → write-workout-reads.Learnt κs (w, (out, tt)) r (w, (out', tt))
      → CalledWrite (programmed w) out.now (written_means r) out'.now

-- A call that writes a workout in a frame to an address: its answer, and the output before and after.
pub data CalledWriteFrame : (to : ℕ) → Programmed → (out : List ℕ) → Answer ℕ → (last : List ℕ) → Type 0 where
  wrote_frame : (r : Result ℕ Refusal) (κs : Lfts 1) (to : ℕ) (w : Workout) (out out' : MutBor (List ℕ))
      → write-workout-frame-reads.Learnt κs (to, (w, (out, tt))) r (to, (w, (out', tt)))
      → CalledWriteFrame to (programmed w) out.now (written_means r) out'.now

-- Each answers and leaves what the definitions say.
pub call_reads : {c : List ℕ} {a : Answer Programmed} → CalledRead c a → ReadsWorkout pm3_limits c a
call_reads (read_contents r κs contents e) = record { answered = e.0; bytes = e.1 }

pub call_writes : {w : Programmed} {out last : List ℕ} {a : Answer ℕ} → CalledWrite w out a last
    → WritesWorkout pm3_limits w out a last
call_writes (wrote_workout r κs w out out' e) =
    record { writes = (e.0, e.1.0); power = watts_below (2 ^ 16) w e.1.1 }

pub call_writes_frame : {to : ℕ} {w : Programmed} {out last : List ℕ} {a : Answer ℕ}
    → CalledWriteFrame to w out a last → WritesWorkoutFrame pm3_limits to w out a last
call_writes_frame (wrote_frame r κs to w out out' e) =
    record { writes = (e.0, e.1.0); power = watts_below (2 ^ 16) w e.1.1 }

-- ---- demand 1: the tables

-- A call that reads is answered 13, 12 or a workout exactly as document 01's table says.
pub call_read_by_table : {c : List ℕ} {a : Answer Programmed} → CalledRead c a → (b : Answer Programmed)
    → Exactly (a ≡ b) (WorkoutJudged pm3_limits c b)
call_read_by_table {c} {a} k = reads_by_table pm3_limits c a (call_reads k)

-- A call that writes is answered 12, 1 or the length, and leaves its output, exactly as document 01's table says.
pub call_written_by_table : {w : Programmed} {out last : List ℕ} {a : Answer ℕ} → CalledWrite w out a last
    → (b : Answer ℕ) (left : List ℕ) → Exactly ((a ≡ b) × (last ≡ left)) (WorkoutWritten pm3_limits w out b left)
call_written_by_table {w} {out} {last} {a} k b left =
    writes_exactly pm3_limits w out a b last left (call_writes k).writes

-- A call that writes a workout in a frame is answered 9, 12, 1 or the length, and leaves its output, exactly as the
-- table says.
pub call_frame_by_table : {to : ℕ} {w : Programmed} {out last : List ℕ} {a : Answer ℕ}
    → CalledWriteFrame to w out a last
    → (b : Answer ℕ) (left : List ℕ)
    → Exactly ((a ≡ b) × (last ≡ left)) (WorkoutFrameWritten pm3_limits to w out b left)
call_frame_by_table {to} {w} {out} {last} {a} k b left =
    frame_writes_exactly pm3_limits to w out a b last left (call_writes_frame k).writes

-- A call that writes a workout in a frame is refused with 9, 12 or 1 alone: the frame is never too long, which would be
-- 2, it names its sender, so that 17 is not asked for, and 13 is no refusal of a writer.
pub call_frame_refusals : {to : ℕ} {w : Programmed} {out last : List ℕ} {n : ℕ}
    → CalledWriteFrame to w out (refused n) last → (n ≡ 9) ⊎ (n ≡ 12) ⊎ (n ≡ 1)
call_frame_refusals {to} {w} {out} {last} {n} k =
    frame_refusals pm3_limits to w out n last ((call_frame_by_table k (refused n) last).0 (refl, refl))

-- A frame that a call wrote has at most 54 bytes.
pub call_frame_short : {to : ℕ} {w : Programmed} {out last : List ℕ} {n : ℕ}
    → CalledWriteFrame to w out (result n) last → n ≤ 54
call_frame_short {to} {w} {out} {last} {n} k = frame_writes_short pm3_limits to w out last n (call_writes_frame k)

-- ---- demand 2

-- A call that reads is answered with a workout exactly when form and limits hold, and then with that workout.
pub call_read_exactly : {c : List ℕ} {a : Answer Programmed} → CalledRead c a → (w : Programmed)
    → Exactly (a ≡ result w) (Readable pm3_limits c w)
call_read_exactly {c} {a} k = reads_exactly pm3_limits c a (call_reads k)

-- A call that reads is answered with a workout exactly when the contents stand for it, in km or in metres where it is a
-- distance, and it is within the limits.
pub call_read_encoded : {c : List ℕ} {a : Answer Programmed} → CalledRead c a → (w : Programmed)
    → Exactly (a ≡ result w) (Encoded w c × WithinLimits pm3_limits w)
call_read_encoded {c} {a} k = reads_encoded pm3_limits c a (call_reads k)

-- A workout that a call wrote is read back as itself by any call on the bytes that were written.
pub call_reads_back : {w : Programmed} {out last : List ℕ} {n : ℕ} {a : Answer Programmed}
    → CalledWrite w out (result n) last → CalledRead (take n last) a → a ≡ result w
call_reads_back {w} {out} {last} {n} {a} k r = pm3_writes_read_back w out last n a (call_writes k) (call_reads r)
