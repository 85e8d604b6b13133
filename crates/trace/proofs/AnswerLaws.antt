-- The laws of an answer's counts, and of the finish.
use Rattle.std.proofs.Common.{append-nil, append_assoc, length-append, Result, Ok, Err, ◌≡◌, ℕ, ◌+◌, ◌-◌, ◌^◌, ◌<◌, ◌≤◌, leb, List, ◌++◌, length, take, drop, sym, refl, ap, ◌∙◌, ap₂, add-zero, mod-eq_of_lt, arith, length-drop, le-leb, leb-false}
use lib.Seq.{take_at}
use lib.ListN.{drop_of_length-le}
use borrow.Rule.Slice.PartMut.{put_mid}
use borrow.Author.Tests.{lt-leb}
use Rattle.lists.specs.Choice.{Exactly}
use Rattle.lists.proofs.Cases.{by_bool}
use Rattle.framing.specs.Reference.{finish}
use Rattle.framing.specs.Located.{answer_in}
use Rattle.frame.specs.Frame.{standard, extended}
use Rattle.answer.specs.Answer.{Answer, result, refused}
use Rattle.answer.specs.Draft.{draft_answer, draft_out, written_means}
use Rattle.answer.specs.Refusals.{number_of}
use Rattle.answer.specs.declared.Refusal.{Refusal}
use Rattle.frame.specs.Answers.{judge_answer}
use Rattle.candidate.specs.Outcome.{Outcome, nothing, judged, told_means, summary_of}
use Rattle.line.specs.Answers.{located_outcome}
use Rattle.line.specs.Reader.{finish_of, LentStepIs}
use Rattle.line.specs.declared.LentStep.{LentStep}
use Rattle.line.proofs.Calls.{lent_outcome_lem}
use Rattle.text.specs.Lines.{call_line, totals}
use Rattle.text.specs.Text.{frame_one, refused_one}
use Rattle.trace.specs.Machine.{add64, number_after, last_text}
use Rattle.trace.specs.Private.{CountsFit, counting, frame_count, refused_count}
use Rattle.trace.specs.declared.Listing.{Listing}
use Rattle.trace.specs.declared.Tally.{Tally}

-- ---- what an answer without its contents tells

pub frame_count_lem : (o : Outcome) → frame_count (summary_of o) ≡ frame_one o
unfolding judge_answer
frame_count_lem nothing = refl
frame_count_lem (judged (refused n)) = refl
frame_count_lem (judged (result (standard c))) = refl
frame_count_lem (judged (result (extended to from c))) = refl

pub refused_count_lem : (o : Outcome) → refused_count (summary_of o) ≡ refused_one o
unfolding judge_answer
refused_count_lem nothing = refl
refused_count_lem (judged (refused n)) = refl
refused_count_lem (judged (result (standard c))) = refl
refused_count_lem (judged (result (extended to from c))) = refl

-- no answer changes no count
pub add_none : (n : ℕ) → n < 2 ^ 64 → n ≡ add64 n 0
add_none n h = let z : n + 0 ≡ n = add-zero n in rw z (sym (mod-eq_of_lt h))

-- ---- the finish

-- a writer that is lent room for the text answers its length
pub room_answers : (w : List ℕ) (room : ℕ) (a : Answer ℕ) → length w ≤ room → a ≡ draft_answer (result w) room
    → a ≡ result (length w)
unfolding draft_answer
room_answers w room a h e = simp (le-leb (length w) room h) at e

-- so the call answers that length
pub writes_length : (w : List ℕ) (room : ℕ) (r : Result ℕ Refusal) → length w ≤ room
    → written_means r ≡ draft_answer (result w) room → r ≡ Ok (length w)
writes_length w room (Ok n) h e =
    let q : result n ≡ result (length w) = room_answers w room (result n) h e in
    let l : n ≡ length w = cc in ap Ok l
writes_length w room (Err why) h e =
    let q : refused (number_of why) ≡ result (length w) = room_answers w room (refused (number_of why)) h e in
    let z : ◌≡◌ {A = ℕ} 0 1 = cc in absurd (omega arith)

-- and leaves the text first in the output
pub writes_out : (w out out' : List ℕ) → length w ≤ length out → out' ≡ draft_out (result w) out
    → out' ≡ w ++ drop (length w) out
unfolding draft_out
writes_out w out out' h e = simp (le-leb (length w) (length out) h) at e

-- and 1 exactly where the output is shorter
pub no_room_exactly : (w : List ℕ) (room : ℕ)
    → Exactly (draft_answer (result w) room ≡ refused 1) (room < length w)
unfolding draft_answer
no_room_exactly w room = (
  λ e. by_bool (leb (length w) room)
      (λ y. let q : result (length w) ≡ refused 1 = simp y at e in
      let z : ◌≡◌ {A = ℕ} 0 1 = cc in absurd (omega arith))
      (λ m. leb-false (length w) room m),
  λ h. simp (lt-leb (length w) room h),
)

-- ---- the last text

-- what is written into the part of an output from an index on
pub put_first : (at : ℕ) (out part : List ℕ) → put_mid at (length out - at) out part ≡ take at out ++ part
put_first at out part =
    ap (λ (l : List ℕ). take at out ++ (part ++ l))
    (drop_of_length-le (drop at out) {i = length out - at} (omega (arith, length-drop at out)))
    ∙ ap (λ (l : List ℕ). take at out ++ l) (append-nil part)

-- a text and one after it, each written first into what is lent
pub put_both : (v w out out₁ last : List ℕ) (a e : ℕ) → length v ≤ length out → a ≡ length v → e ≡ length w
    → out₁ ≡ v ++ drop (length v) out → last ≡ w ++ drop (length w) (take (length out₁ - a) (drop a out₁))
    → take (a + e) (put_mid a (length out₁ - a) out₁ last) ≡ v ++ w
put_both v w out out₁ last a e h ea ee p q =
    let front : take a out₁ ≡ v = ap (take a) p ∙ take_at v (drop (length v) out) a (sym ea) in
    let rest = drop (length w) (take (length out₁ - a) (drop a out₁)) in
    ap (take (a + e)) (put_first a out₁ last)
    ∙ ap₂ (λ (x y : List ℕ). take (a + e) (x ++ y)) front q
    ∙ ap (take (a + e)) (sym (append_assoc v w rest))
    ∙ take_at (v ++ w) rest (a + e) (omega (arith, length-append v w))

pub last_is : (s : Listing) (m : LentStep) → LentStepIs s.reader.bytes m (finish_of s.reader) → CountsFit s.tally
    → (n : ℕ) → n ≡ number_after s.tally.frames s.tally.refusals
    → (all : Tally) → all ≡ counting s.tally (told_means m.told) 0
    → call_line n (located_outcome (told_means m.told) m.position s.reader.bytes)
    ++ totals all.frames all.refusals all.strays
    ≡ last_text s
unfolding last_text
last_is s m g fit n en all ea =
    let t : Tally = s.tally in
    ap₂ (λ (x y : List ℕ). x ++ y)
    (ap₂ call_line en (lent_outcome_lem s.reader.bytes m s.reader finish g))
    (ap (λ (u : Tally). totals u.frames u.refusals u.strays) ea
    ∙ ap (λ (z : ℕ). totals (add64 t.frames (frame_count (told_means m.told)))
    (add64 t.refusals (refused_count (told_means m.told))) z) (sym (add_none t.strays fit.2))
    ∙ ap₂ (λ (x y : ℕ). totals (add64 t.frames x) (add64 t.refusals y) t.strays)
    (ap frame_count g.told_is ∙ frame_count_lem (answer_in (finish_of s.reader).answer))
    (ap refused_count g.told_is ∙ refused_count_lem (answer_in (finish_of s.reader).answer)))
