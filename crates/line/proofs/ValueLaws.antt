-- The whole answer to a call: the enum, the position and the array that is left tell the outcome, and the array beside an
-- answer by value is the outcome's contents and then zeros.
use mathlib.Core.Path.{◌≡◌, refl, ap}
use mathlib.Core.List.{List}
use native.Mathlib.Omega.{arith}
use Prim.Native.Nat.{ℕ, ◌-◌}
use lib.ListN.{length, take, replicate}
use lib.Seq.{take_at}
use Rattle.answer.specs.Answer.{result, refused}
use Rattle.framing.specs.Reference.{Call, byte, finish}
use Rattle.framing.specs.Located.{Located, unlocated, located, answer_in, position_in, located_by}
use Rattle.framing.specs.Counting.{locate}
use Rattle.frame.specs.Frame.{standard, extended, contents_of}
use Rattle.frame.specs.Answers.{judge_answer, frame_read}
use Rattle.candidate.specs.Outcome.{Outcome, nothing, judged, summary_of, outcome_of, capacity}
use Rattle.candidate.specs.Holder.{holder, turn_held}
use Rattle.candidate.specs.Feed.{is_answer}
use Rattle.candidate.proofs.ValueLaws.{call_whole as held_whole}
use Rattle.line.specs.Rowing.{full}
use Rattle.line.specs.Answers.{located_as, located_outcome, padded, contents_told, value_answer_of, value_outcome}
use Rattle.line.specs.Reader.{turn_of}
use Rattle.line.specs.Private.{Whole, beside_told}
use Rattle.line.specs.declared.LineReader.{LineReader}
use Rattle.line.proofs.StepLaws.{by_count}

-- ---- the enum, the position and the array that is left

-- an outcome at a position, where the array tells its contents
pub located_whole : (o : Outcome) (position : ℕ) (bytes : List ℕ) → outcome_of (summary_of o) bytes ≡ o
    → located_outcome (summary_of (answer_in (locate is_answer position o))) (position_in (locate is_answer position o)) bytes
    ≡ locate is_answer position o
located_whole nothing position bytes e = refl
located_whole (judged v) position bytes e = ap (located position) e

pub full_whole : (bytes : List ℕ) → located_outcome (summary_of full) 0 bytes ≡ located 0 full
unfolding judge_answer frame_read
full_whole bytes = refl

pub call_whole : (r : LineReader) (c : Call) → Whole (turn_of r c)
call_whole r (byte b) =
    let h = holder r.bytes r.state.held in
    by_count r b Whole
    (λ l. located_whole (turn_held h (byte b)).answer r.state.start (turn_held h (byte b)).next.bytes
    (held_whole h (byte b)))
    (λ l. full_whole r.bytes)
call_whole r finish =
    let h = holder r.bytes r.state.held in
    located_whole (turn_held h finish).answer r.state.start (turn_held h finish).next.bytes (held_whole h finish)

-- ---- the array beside an answer

-- the first bytes of the array that is left are the outcome's contents
pub beside_is : (o : Outcome) (bytes : List ℕ) → outcome_of (summary_of o) bytes ≡ o
    → beside_told (summary_of o) bytes ≡ padded (contents_told o)
unfolding judge_answer frame_read contents_of
beside_is nothing bytes e = refl
beside_is (judged (refused n)) bytes e = refl
beside_is (judged (result (standard c))) bytes e =
    let q : take (length c) bytes ≡ c = cc in ap padded q
beside_is (judged (result (extended to from c))) bytes e =
    let q : take (length c) bytes ≡ c = cc in ap padded q

-- An answer by value tells the whole outcome: nothing is lost in it.
pub answer_whole : (o : Outcome) → outcome_of (value_answer_of o).told (value_answer_of o).contents ≡ o
unfolding judge_answer frame_read contents_of
answer_whole nothing = refl
answer_whole (judged (refused n)) = refl
answer_whole (judged (result (standard c))) =
    ap (λ (l : List ℕ). judged (result (standard l)))
    (take_at c (replicate (capacity - length c) 0) (length c) refl)
answer_whole (judged (result (extended to from c))) =
    ap (λ (l : List ℕ). judged (result (extended to from l)))
    (take_at c (replicate (capacity - length c) 0) (length c) refl)

-- The same with its position.
pub value_outcome_lem : (a : Located Outcome) → value_outcome (located_by value_answer_of a) ≡ a
value_outcome_lem (unlocated o) = ap unlocated (answer_whole o)
value_outcome_lem (located position o) = ap (located position) (answer_whole o)

-- What an answer by value means, with its position, where the array that is left tells the outcome.
pub value_means : (a : Located Outcome) (bytes : List ℕ)
    → located_outcome (summary_of (answer_in a)) (position_in a) bytes ≡ a
    → located_as (summary_of (answer_in a)) (position_in a)
    (record { told = summary_of (answer_in a); contents = beside_told (summary_of (answer_in a)) bytes })
    ≡ located_by value_answer_of a
value_means (unlocated nothing) bytes e = refl
value_means (unlocated (judged v)) bytes e = let z : ◌≡◌ {A = ℕ} 0 1 = cc in absurd (omega arith)
value_means (located position nothing) bytes e = let z : ◌≡◌ {A = ℕ} 0 1 = cc in absurd (omega arith)
value_means (located position (judged v)) bytes e =
    let q : outcome_of (summary_of (judged v)) bytes ≡ judged v = cc in
    ap (λ (c : List ℕ). located position (record { told = summary_of (judged v); contents = c }))
    (beside_is (judged v) bytes q)
