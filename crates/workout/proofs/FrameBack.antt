-- The bytes that a workout goes out in are read back, live too, as the frame, and its contents as the workout.
use Prim.Native.Nat.{ℕ, ◌≤◌}
use mathlib.Core.Path.{◌≡◌, sym, ap, ◌∙◌}
use mathlib.Core.List.{List}
use native.Mathlib.Omega.{arith}
use lib.ListN.{length, take, drop}
use lib.Seq.{take_at}
use Rattle.answer.specs.Answer.{Answer, result}
use Rattle.answer.proofs.Drafts.{written_first}
use Rattle.frame.specs.Frame.{contents_of, wire_of}
use Rattle.frame.specs.Verdict.{verdict}
use Rattle.frame.specs.Answers.{FrameOutline, extended_outline, outline_of, Reads}
use Rattle.frame.specs.Conditions.{fits}
use Rattle.frame.specs.declared.Origin.{Origin}
use Rattle.frame.proofs.OriginLaws.{extended_named, admit_result}
use Rattle.frame.proofs.Table.{accepted_exactly, reads_exactly}
use Rattle.frame.proofs.RoundTrip.{reads_back}
use Rattle.frame.proofs.Calls.{CalledRead as FrameRead, call_reads as frame-call-reads}
use Rattle.workout.specs.Limits.{pm3_limits}
use Rattle.workout.specs.Workout.{Programmed, workout_bytes, workout_frame}
use Rattle.workout.specs.Answers.{workout_answer, workout_frame_draft}
use Rattle.workout.specs.Promises.{WritesWorkoutFrame}
use Rattle.workout.specs.Conditions.{WithinLimits}
use Rattle.workout.proofs.FrameLaws.{frame_short, frame_is}
use Rattle.workout.proofs.Table.{within_limits_lem}
use Rattle.workout.proofs.RoundTrip.{pm3_reads_back}
use Rattle.workout.proofs.WriteLaws.{contents_length}
use Rattle.workout.proofs.Calls.{CalledRead, call_reads, CalledWriteFrame, call_writes_frame}

-- The first n bytes of an output are the frame of a workout to an address, short enough to be read. The workout is
-- within the limits, and is what the frame's contents are read as.
pub record WorkoutSent (to : ℕ) (w : Programmed) (n : ℕ) (last : List ℕ) : Type 0 where
  pub wire : take n last ≡ wire_of (workout_frame to w)
  pub short : length (wire_of (workout_frame to w)) ≤ 120
  pub within : WithinLimits pm3_limits w
  pub back : workout_answer pm3_limits (workout_bytes w) ≡ result w

-- Where writing a workout in a frame is answered n, the output is such afterwards.
pub frame_back : (to : ℕ) (w : Programmed) (out last : List ℕ) (n : ℕ)
    → WritesWorkoutFrame pm3_limits to w out (result n) last → WorkoutSent to w n last
frame_back to w out last n k =
    let f = written_first (workout_frame_draft pm3_limits to w) out n (sym k.writes.0) in
    let i = frame_is pm3_limits to w f.0 f.1 in
    record {
      wire = ap (take n) k.writes.1 ∙ f.3 ∙ i.1;
      short = omega (arith, frame_short to w);
      within = within_limits_lem pm3_limits w i.0;
      back = pm3_reads_back w i.0 k.power;
    }

-- Every call that is answered n leaves such an output.
pub call_frame_back : {to : ℕ} {w : Programmed} {out last : List ℕ} {n : ℕ}
    → CalledWriteFrame to w out (result n) last → WorkoutSent to w n last
call_frame_back {to} {w} {out} {last} {n} k = frame_back to w out last n (call_writes_frame k)

-- Any call that reads those bytes, at either origin and with room for 23 bytes, tells the extended frame from 00 to the
-- address with 23 contents bytes, and these are the workout's.
pub frame_reads_back : (o : Origin) (to : ℕ) (w : Programmed) (last : List ℕ) (n : ℕ) (into : List ℕ)
    (a : Answer FrameOutline) (left : List ℕ)
    → WorkoutSent to w n last → Reads o (take n last) into a left → 23 ≤ length into
    → (a ≡ result (extended_outline to 0x00 23)) × (take 23 left ≡ workout_bytes w)
unfolding contents_of
frame_reads_back o to w last n into a left s r room =
    let f = workout_frame to w in
    let c = workout_bytes w in
    let count = contents_length w in
    let v : verdict (take n last) ≡ result f = ap verdict s.wire ∙ reads_back f s.short in
    let sound = (accepted_exactly o (take n last) f).0 (admit_result o (verdict (take n last)) f v (extended_named o)) in
    let q = (reads_exactly o (take n last) into a (result (outline_of f)) left _ r).1
    (fits sound (omega (arith, count, room))) in (
      q.0 ∙ ap (λ (k : ℕ). result (extended_outline to 0x00 k)) count,
      ap (take 23) q.1 ∙ take_at c (drop (length c) into) 23 count,
    )

-- A workout that a call sent is read back by any calls of the frame's readers, live or of a trace, and of
-- `read_workout` on the contents.
pub call_frame_reads_back : {o : Origin} {to : ℕ} {w : Programmed} {out last into left : List ℕ} {n : ℕ}
    {a : Answer FrameOutline}
    → CalledWriteFrame to w out (result n) last → FrameRead o (take n last) into a left → 23 ≤ length into
    → (a ≡ result (extended_outline to 0x00 23)) × ((b : Answer Programmed) → CalledRead (take 23 left) b → b ≡ result w)
call_frame_reads_back {o} {to} {w} {out} {last} {into} {left} {n} {a} k r room =
    let s = call_frame_back k in
    let q = frame_reads_back o to w last n into a left s (frame-call-reads r) room in
    (q.0, λ b l. (call_reads l).answered ∙ ap (workout_answer pm3_limits) q.1 ∙ s.back)
