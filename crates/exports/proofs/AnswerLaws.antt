-- The lengths of all answers have room in 32 bits.
use Prim.Native.Nat.{ℕ, ◌^◌, ◌≤◌, ◌<◌}
use mathlib.Core.Path.{◌≡◌, refl}
use mathlib.Core.List.{List}
use native.Mathlib.Omega.{arith}
use lib.Dec.{leb, eqb}
use lib.ListN.{length, get_or}
use borrow.Author.Tests.{leb-true}
use Rattle.answer.specs.Draft.{Draft, draft_answer}
use Rattle.answer.specs.Answer.{result, refused, through}
use Rattle.lists.proofs.Cases.{by_bool}
use Rattle.frame.specs.Address.{in_range}
use Rattle.frame.specs.Frame.{Frame, standard, extended, contents_of, wire_of}
use Rattle.frame.specs.Verdict.{Verdict, verdict}
use Rattle.frame.specs.Origin.{admit}
use Rattle.writer.specs.Answers.{frame_draft, sent_draft}
use Rattle.frame.specs.Answers.{read_answer}
use Rattle.frame.specs.declared.Origin.{Origin}
use Rattle.frame.specs.declared.Origin.TheVariants.{Live, Trace}
use Rattle.frame.proofs.ContentsLaws.{admitted_short}
use Rattle.workout.specs.Limits.{Limits}
use Rattle.workout.specs.Workout.{Programmed, within_limits}
use Rattle.workout.specs.Answers.{workout_draft, workout_frame_draft}
use Rattle.workout.proofs.WriteLaws.{contents_length}
use Rattle.workout.proofs.FrameLaws.{frame_draft_short}
use Rattle.lease.specs.Lease.{stop, owns, stop_frame, answer_of, lent_answer, table_of}
use Rattle.lease.specs.Answers.{written_length}
use Rattle.lease.proofs.LeaseLaws.{stop_short}
use Rattle.exports.specs.Answers.{WriteShort, ReadShort}

-- a draft's length has room
abbrev DraftShort : Draft → Type 0
DraftShort (result w) = length w < 2 ^ 32
DraftShort (refused n) = Unit {0}

draft_short : (d : Draft) (room : ℕ) → DraftShort d → WriteShort (draft_answer d room)
unfolding draft_answer
draft_short (refused n) room h = tt
draft_short (result w) room h = by_bool (leb (length w) room) (λ y. simp y h) (λ y. simp y tt)

of_frame : (f : Frame) → DraftShort (frame_draft f)
unfolding frame_draft
of_frame f =
    by_bool (leb (length (wire_of f)) 120) (λ y. simp y (omega (arith, leb-true (length (wire_of f)) 120 y)))
    (λ y. simp y tt)

pub frame_short : (f : Frame) (room : ℕ) → WriteShort (draft_answer (frame_draft f) room)
frame_short f room = draft_short (frame_draft f) room (of_frame f)

of_sent : (o : Origin) (f : Frame) → DraftShort (sent_draft o f)
of_sent Live (standard c) = tt
of_sent Live (extended to from c) = of_frame (extended to from c)
of_sent Trace f = of_frame f

pub sent_short : (o : Origin) (f : Frame) (room : ℕ) → WriteShort (draft_answer (sent_draft o f) room)
sent_short o f room = draft_short (sent_draft o f) room (of_sent o f)

pub length_short : (o : Origin) (f : Frame) → WriteShort (through length (sent_draft o f))
length_short o f = of_draft (sent_draft o f) (of_sent o f)
  where
    of_draft : (d : Draft) → DraftShort d → WriteShort (through length d)
    of_draft (refused n) h = tt
    of_draft (result w) h = h

pub workout_short : (limits : Limits) (w : Programmed) (room : ℕ)
    → WriteShort (draft_answer (workout_draft limits w) room)
unfolding workout_draft
workout_short limits w room =
    draft_short (workout_draft limits w) room
    (by_bool (within_limits limits w) (λ y. simp y (omega (arith, contents_length w))) (λ y. simp y tt))

pub workout_frame_short : (limits : Limits) (to : ℕ) (w : Programmed) (room : ℕ)
    → WriteShort (draft_answer (workout_frame_draft limits to w) room)
workout_frame_short limits to w room = draft_short (workout_frame_draft limits to w) room (of_workout (workout_frame_draft limits to w) refl)
  where
    of_workout : (d : Draft) → workout_frame_draft limits to w ≡ d → DraftShort d
    of_workout (refused n) e = tt
    of_workout (result s) e = omega (arith, frame_draft_short limits to w s e)

token_fits : (a t room held : ℕ) → WriteShort (written_length (answer_of held (stop a t room)))
unfolding answer_of
token_fits a t room held =
    by_bool (in_range a)
    (λ r. by_bool (owns t held)
    (λ o. by_bool (leb (length (stop_frame a)) room) (λ l. simp (r, o, l) (omega (arith, stop_short a)))
    (λ l. simp (r, o, l) tt))
    (λ o. simp (r, o) tt))
    (λ r. simp r tt)

pub stop_fits : (a t room : ℕ) (s : List ℕ) → WriteShort (written_length (lent_answer s (stop a t room)))
unfolding lent_answer
stop_fits a t room s =
    by_bool (eqb (length s) 2048) (λ y. simp y (token_fits a t room (get_or (table_of s) a 0))) (λ y. simp y tt)

pub read_short : (o : Origin) (w : List ℕ) (room : ℕ) → ReadShort (read_answer (admit o (verdict w)) room)
unfolding read_answer contents_of
read_short o w room = of_verdict (admit o (verdict w)) refl
  where
    of_frame : (f : Frame) → length (contents_of f) ≤ 117 → ReadShort (read_answer (result f) room)
    of_frame (standard c) h = by_bool (leb (length c) room) (λ y. simp y (omega (arith, h))) (λ y. simp y tt)
    of_frame (extended to from c) h = by_bool (leb (length c) room) (λ y. simp y (omega (arith, h))) (λ y. simp y tt)

    of_verdict : (v : Verdict) → admit o (verdict w) ≡ v → ReadShort (read_answer v room)
    of_verdict (refused n) e = tt
    of_verdict (result f) e = of_frame f (admitted_short o w f e)
