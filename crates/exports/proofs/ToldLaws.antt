-- A number tells a caller exactly the answer that was packed into it, so every theorem over what the library's
-- functions answer carries over to the exported ones.
use Prim.Native.Nat.{ℕ}
use mathlib.Core.Path.{◌≡◌, refl, ap, ◌∙◌}
use mathlib.Core.List.{List, []}
use native.Mathlib.Omega.{arith}
use lib.Dec.{leb, eqb}
use lib.ListN.{length, get_or}
use borrow.Author.Tests.{ne_eqb}
use Rattle.lists.proofs.Cases.{by_bool}
use Rattle.answer.specs.Answer.{Answer, result, refused, through}
use Rattle.answer.specs.Draft.{Draft, draft_answer}
use Rattle.frame.specs.Address.{in_range}
use Rattle.frame.specs.Frame.{Frame, standard, extended, contents_of, wire_of}
use Rattle.frame.specs.Verdict.{Verdict, verdict}
use Rattle.frame.specs.Origin.{admit}
use Rattle.writer.specs.Answers.{frame_draft, sent_draft}
use Rattle.frame.specs.Answers.{FrameOutline, standard_outline, extended_outline, read_answer}
use Rattle.frame.specs.Conditions.{Judged, truncated, long, bad_escape, short, bad_sum, unnamed, sound}
use Rattle.frame.specs.declared.Origin.{Origin}
use Rattle.frame.specs.declared.Origin.TheVariants.{Live, Trace}
use Rattle.frame.proofs.Table.{verdict_by_table}
use Rattle.workout.specs.Limits.{Limits}
use Rattle.workout.specs.Workout.{Programmed, within_limits}
use Rattle.workout.specs.Answers.{workout_draft, workout_frame_draft}
use Rattle.lease.specs.Lease.{LeaseCall, hold, release, stop, owns, stop_frame, answer_of, address_of, table_of}
use Rattle.lease.specs.Lease.{lent_answer}
use Rattle.lease.specs.Answers.{written_length}
use Rattle.exports.specs.Packed.{Fields, Tells}
use Rattle.exports.specs.Answers.{write_fields, read_fields, lease_fields}
use Rattle.exports.specs.Told.{told_as, told_written, told_lease, outline_in, told_read, Numbered}

-- ---- what was packed is what is told

pub written_told : (n : ℕ) (a : Answer ℕ) → Numbered a → Tells n (write_fields a) → told_written n ≡ a
unfolding told_written
written_told n (result len) h t = ap (λ (f : Fields). told_as f.number f.len) t.unpacks
written_told n (refused m) h t =
    ap (λ (f : Fields). told_as f.number f.len) t.unpacks ∙ simp (ne_eqb m 0 h)

pub read_told : (n : ℕ) (a : Answer FrameOutline) → Numbered a → Tells n (read_fields a) → told_read n ≡ a
unfolding told_read
read_told n (result (standard_outline len)) h t = ap (λ (f : Fields). told_as f.number (outline_in f)) t.unpacks
read_told n (result (extended_outline to from len)) h t =
    ap (λ (f : Fields). told_as f.number (outline_in f)) t.unpacks
read_told n (refused m) h t =
    ap (λ (f : Fields). told_as f.number (outline_in f)) t.unpacks ∙ simp (ne_eqb m 0 h)

-- ---- the refusals of what was packed are numbered

pub through_numbered : {A B : Type 0} (f : A → B) (a : Answer A) → Numbered a → Numbered (through f a)
through_numbered f (result x) h = tt
through_numbered f (refused n) h = h

pub draft_numbered : (d : Draft) (room : ℕ) → Numbered d → Numbered (draft_answer d room)
unfolding draft_answer
draft_numbered (refused n) room h = h
draft_numbered (result w) room h =
    by_bool (leb (length w) room) (λ y. simp y tt) (λ y. simp y (λ e. omega arith))

frame_numbered : (f : Frame) → Numbered (frame_draft f)
unfolding frame_draft
frame_numbered f = by_bool (leb (length (wire_of f)) 120) (λ y. simp y tt) (λ y. simp y (λ e. omega arith))

pub sent_numbered : (o : Origin) (f : Frame) → Numbered (sent_draft o f)
sent_numbered Live (standard c) = λ e. omega arith
sent_numbered Live (extended to from c) = frame_numbered (extended to from c)
sent_numbered Trace f = frame_numbered f

pub workout_numbered : (limits : Limits) (w : Programmed) → Numbered (workout_draft limits w)
unfolding workout_draft
workout_numbered limits w = by_bool (within_limits limits w) (λ y. simp y tt) (λ y. simp y (λ e. omega arith))

pub workout_frame_numbered : (limits : Limits) (to : ℕ) (w : Programmed) → Numbered (workout_frame_draft limits to w)
unfolding workout_frame_draft
workout_frame_numbered limits to w =
    by_bool (in_range to)
    (λ y. simp y (through_numbered (λ (c : List ℕ). wire_of (extended to 0x00 c)) (workout_draft limits w)
    (workout_numbered limits w)))
    (λ y. simp y (λ e. omega arith))

lease_numbered : (held : ℕ) (c : LeaseCall) → Numbered (answer_of held c)
unfolding answer_of
lease_numbered held (hold a t) =
    by_bool (in_range a)
    (λ r. by_bool (eqb t 0) (λ z. simp (r, z) (λ e. omega arith))
    (λ z. by_bool (eqb held 0) (λ f. simp (r, z, f) tt) (λ f. simp (r, z, f) (λ e. omega arith))))
    (λ r. simp r (λ e. omega arith))
lease_numbered held (release a t) =
    by_bool (in_range a)
    (λ r. by_bool (owns t held) (λ o. simp (r, o) tt) (λ o. simp (r, o) (λ e. omega arith)))
    (λ r. simp r (λ e. omega arith))
lease_numbered held (stop a t room) =
    by_bool (in_range a)
    (λ r. by_bool (owns t held)
    (λ o. by_bool (leb (length (stop_frame a)) room) (λ l. simp (r, o, l) tt) (λ l. simp (r, o, l) (λ e. omega arith)))
    (λ o. simp (r, o) (λ e. omega arith)))
    (λ r. simp r (λ e. omega arith))

pub lent_numbered : (s : List ℕ) (c : LeaseCall) → Numbered (lent_answer s c)
unfolding lent_answer
lent_numbered s c =
    by_bool (eqb (length s) 2048) (λ y. simp y (lease_numbered (get_or (table_of s) (address_of c) 0) c))
    (λ y. simp y (λ e. omega arith))

judged_numbered : (o : Origin) (w : List ℕ) (v : Verdict) → Judged o w v → Numbered v
judged_numbered o w v (truncated n) = λ e. omega arith
judged_numbered o w v (long t n) = λ e. omega arith
judged_numbered o w v (bad_escape t l n) = λ e. omega arith
judged_numbered o w v (short t u l g x n) = λ e. omega arith
judged_numbered o w v (bad_sum t u l g x k n) = λ e. omega arith
judged_numbered o w v (unnamed t u l g x k s n) = λ e. omega arith
judged_numbered o w v (sound f s) = tt

pub verdict_numbered : (o : Origin) (w : List ℕ) → Numbered (admit o (verdict w))
verdict_numbered o w =
    judged_numbered o w (admit o (verdict w)) ((verdict_by_table o w (admit o (verdict w))).0 refl)

pub read_numbered : (o : Origin) (w : List ℕ) (room : ℕ) → Numbered (read_answer (admit o (verdict w)) room)
unfolding read_answer
read_numbered o w room = of_verdict (admit o (verdict w)) (verdict_numbered o w)
  where
    of_verdict : (v : Verdict) → Numbered v → Numbered (read_answer v room)
    of_verdict (refused n) h = h
    of_verdict (result f) h =
        by_bool (leb (length (contents_of f)) room) (λ y. simp y tt) (λ y. simp y (λ e. omega arith))

-- ---- what the exported functions' answers tell

-- what is written of a draft
draft_told : (n : ℕ) (d : Draft) (room : ℕ) → Numbered d → Tells n (write_fields (draft_answer d room))
    → told_written n ≡ draft_answer d room
draft_told n d room h = written_told n (draft_answer d room) (draft_numbered d room h)

module _ (o : Origin) where
  pub frame_told : (n : ℕ) (f : Frame) (room : ℕ) → Tells n (write_fields (draft_answer (sent_draft o f) room))
      → told_written n ≡ draft_answer (sent_draft o f) room
  frame_told n f room = draft_told n (sent_draft o f) room (sent_numbered o f)

  pub length_told : (n : ℕ) (f : Frame) → Tells n (write_fields (through length (sent_draft o f)))
      → told_written n ≡ through length (sent_draft o f)
  length_told n f =
      written_told n (through length (sent_draft o f)) (through_numbered length (sent_draft o f) (sent_numbered o f))

  pub slice_told : (n : ℕ) (w : List ℕ) (room : ℕ) → Tells n (read_fields (read_answer (admit o (verdict w)) room))
      → told_read n ≡ read_answer (admit o (verdict w)) room
  slice_told n w room = read_told n (read_answer (admit o (verdict w)) room) (read_numbered o w room)

pub workout_told : (n : ℕ) (limits : Limits) (w : Programmed) (room : ℕ)
    → Tells n (write_fields (draft_answer (workout_draft limits w) room))
    → told_written n ≡ draft_answer (workout_draft limits w) room
workout_told n limits w room = draft_told n (workout_draft limits w) room (workout_numbered limits w)

pub workout_frame_told : (n : ℕ) (limits : Limits) (to : ℕ) (w : Programmed) (room : ℕ)
    → Tells n (write_fields (draft_answer (workout_frame_draft limits to w) room))
    → told_written n ≡ draft_answer (workout_frame_draft limits to w) room
workout_frame_told n limits to w room =
    draft_told n (workout_frame_draft limits to w) room (workout_frame_numbered limits to w)

-- hold and release write nothing
lease_told : (n : ℕ) (a : Answer (List ℕ)) → Numbered a → through (λ (w : List ℕ). []) a ≡ a → Tells n (lease_fields a)
    → told_lease n ≡ a
unfolding told_lease
lease_told n (result w) h e t =
    ap (through (λ (len : ℕ). [])) (written_told n (result (length w)) tt t) ∙ e
lease_told n (refused m) h e t = ap (through (λ (len : ℕ). [])) (written_told n (refused m) h t)

pub hold_told : (n : ℕ) (s : List ℕ) (a t : ℕ) → Tells n (lease_fields (lent_answer s (hold a t)))
    → told_lease n ≡ lent_answer s (hold a t)
unfolding lent_answer answer_of
hold_told n s a t =
    lease_told n (lent_answer s (hold a t)) (lent_numbered s (hold a t))
    (by_bool (eqb (length s) 2048)
    (λ y. by_bool (in_range a)
    (λ r. by_bool (eqb t 0) (λ z. simp (y, r, z))
    (λ z. by_bool (eqb (get_or (table_of s) a 0) 0) (λ f. simp (y, r, z, f)) (λ f. simp (y, r, z, f))))
    (λ r. simp (y, r)))
    (λ y. simp y))

pub release_told : (n : ℕ) (s : List ℕ) (a t : ℕ) → Tells n (lease_fields (lent_answer s (release a t)))
    → told_lease n ≡ lent_answer s (release a t)
unfolding lent_answer answer_of
release_told n s a t =
    lease_told n (lent_answer s (release a t)) (lent_numbered s (release a t))
    (by_bool (eqb (length s) 2048)
    (λ y. by_bool (in_range a)
    (λ r. by_bool (owns t (get_or (table_of s) a 0)) (λ o. simp (y, r, o)) (λ o. simp (y, r, o)))
    (λ r. simp (y, r)))
    (λ y. simp y))

pub stop_told_lem : (n : ℕ) (s : List ℕ) (a t room : ℕ)
    → Tells n (write_fields (written_length (lent_answer s (stop a t room))))
    → told_written n ≡ written_length (lent_answer s (stop a t room))
stop_told_lem n s a t room =
    written_told n (written_length (lent_answer s (stop a t room)))
    (through_numbered length (lent_answer s (stop a t room)) (lent_numbered s (stop a t room)))
