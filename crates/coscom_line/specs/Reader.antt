-- The treadmill's line: the protocol at which the reference decoder and the bounded reader are taken, and the line
-- reader's calls, on every value of the struct: those of framing's bounded reader. Document 01, "The line"; document
-- 02, No. 3.
use Rattle.std.specs.Prelude.{◌≡◌, Bool, List, ℕ, length}
use Rattle.lists.specs.Choice.{within}
use Rattle.lists.specs.Machine.{Turn, turn}
use Rattle.answer.specs.Answer.{refused}
use Rattle.framing.specs.Reference.{Call, byte, finish, Role, Protocol}
use Rattle.framing.specs.Bounded.{BoundedReader, bounded, Bounds, byte_turn}
use Rattle.framing.specs.Bounded.{bounded_turn}
use Rattle.coscom.specs.Flags.{start_flag, stop_flag, role_of, candidate_of}
use Rattle.coscom.specs.Verdict.{verdict}
use Rattle.coscom.specs.Answers.{left_in}
use Rattle.coscom_line.specs.Outcome.{Outcome, nothing, judged, told_means, summary_of, outcome_of, capacity, zeros}
use Rattle.coscom_line.specs.Outcome.{ValueAnswer, value_answer_of}
use Rattle.framing.specs.declared.Mode.{Mode}
use Rattle.framing.specs.declared.Mode.TheVariants.{Outside}
use Rattle.framing.specs.declared.Held.{Held}
use Rattle.coscom_line.specs.declared.LineReader.{LineReader}
use Rattle.coscom_line.specs.declared.LentStep.{LentStep}
use Rattle.coscom_line.specs.declared.StepAnswer.{StepAnswer}
use Rattle.coscom_line.specs.declared.Stepped.{Stepped}

-- ---- the protocol

-- A terminated candidate is judged as the slice that it is, in packet reading's order without 1.
abbrev pub coscom : Protocol Outcome
coscom = record { role = role_of; nothing = nothing; truncated = judged (refused 6); judge = λ s. judged (verdict s) }

-- The array after an answer: an accepted packet's data unit stands first.
abbrev pub left_by : Outcome → List ℕ → List ℕ
left_by nothing bytes = bytes
left_by (judged v) bytes = left_in v bytes

-- A candidate of 254 bytes between its flags is held, and judged in place as the slice that it is; one with more is
-- refused with 2 when it is terminated. There is one kind of candidate.
abbrev pub coscom_bounds : Bounds (Unit {0}) Outcome
coscom_bounds =
    record {
      capacity = capacity;
      kind = λ flag. tt;
      judge = λ kind body. judged (verdict (candidate_of body));
      left = left_by;
      long = judged (refused 2);
    }

-- Whether a byte ends a run: it lies between the two flags, both included.
abbrev pub ends_run : ℕ → Bool
ends_run b = within start_flag stop_flag b

-- ---- the reader

-- The reader that a lent array and a state are.
abbrev pub lent_reader : List ℕ → Held (Unit {0}) → LineReader
lent_reader bytes state = record { bytes = bytes; state = state }

abbrev pub reader_of : List ℕ → ℕ → Mode (Unit {0}) → LineReader
reader_of bytes len mode = lent_reader bytes (record { len = len; mode = mode })

abbrev pub new_reader : LineReader
new_reader = reader_of zeros 0 Outside

-- A reader that is outside of a candidate. What is in its array, and its length, doesn't matter.
pub record AsNew (r : LineReader) : Type 0 where
  pub array : length r.bytes ≡ capacity
  pub outside_is : r.state.mode ≡ Outside

-- ---- as a bounded reader, and back

abbrev pub seen : LineReader → BoundedReader (Unit {0})
seen r = bounded r.bytes r.state.len r.state.mode

abbrev pub reader_seen : BoundedReader (Unit {0}) → LineReader
reader_seen r = reader_of r.bytes r.len r.mode

-- ---- the calls

-- An outcome, and the reader afterwards.
abbrev pub ReaderTurn : Type 0
ReaderTurn = Turn LineReader Outcome

abbrev pub turn_seen : Turn (BoundedReader (Unit {0})) Outcome → ReaderTurn
turn_seen t = turn t.answer (reader_seen t.next)

abbrev pub turn_of : LineReader → Call → ReaderTurn
turn_of r c = turn_seen (bounded_turn coscom coscom_bounds (seen r) c)

-- A byte is fed.
abbrev pub step_of : LineReader → ℕ → ReaderTurn
step_of r b = turn_of r (byte b)

-- One of a role.
abbrev pub role_step : Role → LineReader → ℕ → ReaderTurn
role_step ρ r b = turn_seen (byte_turn coscom coscom_bounds ρ (seen r) b)

-- The input ends.
abbrev pub finish_of : LineReader → ReaderTurn
finish_of r = turn_of r finish

abbrev pub outcome_at : LineReader → Call → Outcome
outcome_at r c = (turn_of r c).answer

abbrev pub next_after : LineReader → Call → LineReader
next_after r c = (turn_of r c).next

-- ---- what a function returns

-- Over a lent array, with `bytes` in it afterwards.
pub record LentStepIs (bytes : List ℕ) (s : LentStep) (t : ReaderTurn) : Type 0 where
  pub told_is : told_means s.told ≡ summary_of t.answer
  pub next_is : lent_reader bytes s.state ≡ t.next

-- What an answer by value means.
abbrev pub answer_means : StepAnswer → ValueAnswer
answer_means a = record { told = told_means a.told; unit = a.unit }

-- By value: the whole answer is that of the outcome.
pub record StepIs (s : Stepped) (t : ReaderTurn) : Type 0 where
  pub answer_is : answer_means s.answer ≡ value_answer_of t.answer
  pub next_is : s.next ≡ t.next

-- ---- what a caller has of an answer

-- The outcome that an answer over a lent array and that array hold.
abbrev pub lent_outcome : LentStep → List ℕ → Outcome
lent_outcome s bytes = outcome_of (told_means s.told) bytes
