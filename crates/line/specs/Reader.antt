-- The line reader's calls, on every value of the struct: what holds the open candidate, and a count beside it that gives
-- each answer its position. Document 01, "The line"; document 02, No. 7.
use Rattle.std.specs.Prelude.{◌≡◌, List, ℕ, length}
use Rattle.lists.specs.Machine.{Turn, turn, run}
use Rattle.framing.specs.Reference.{Call, byte, finish}
use Rattle.framing.specs.Located.{Located, answer_in, position_in, located_by}
use Rattle.framing.specs.Counting.{Counter, counter, counted_turn}
use Rattle.frame.specs.declared.Origin.{Origin}
use Rattle.candidate.specs.Outcome.{Outcome, told_means, summary_of, capacity, zeros}
use Rattle.candidate.specs.Holder.{Holder, holder, turn_held}
use Rattle.candidate.specs.Feed.{is_answer}
use Rattle.candidate.specs.declared.Held.{Held}
use Rattle.frame.specs.declared.Kind.{Kind}
use Rattle.framing.specs.declared.Mode.{Mode}
use Rattle.framing.specs.declared.Mode.TheVariants.{Outside}
use Rattle.line.specs.Rowing.{located_rowing}
use Rattle.line.specs.Answers.{located_as, located_outcome, ValueAnswer, value_answer_of}
use Rattle.line.specs.declared.State.{State}
use Rattle.line.specs.declared.LineReader.{LineReader}
use Rattle.line.specs.declared.LentStep.{LentStep}
use Rattle.line.specs.declared.StepAnswer.{StepAnswer}
use Rattle.line.specs.declared.Stepped.{Stepped}

-- The reader that a lent array and a state are.
abbrev pub lent_reader : List ℕ → State → LineReader
lent_reader bytes state = record { bytes = bytes; state = state }

abbrev pub held_of : Origin → ℕ → Mode Kind → Held
held_of o len mode = record { len = len; mode = mode; origin = o }

abbrev pub reader : List ℕ → Held → (start count : ℕ) → LineReader
reader bytes held start count = lent_reader bytes (record { held = held; start = start; count = count })

-- A new reader of an origin.
abbrev pub new_reader : Origin → LineReader
new_reader o = reader zeros (held_of o 0 Outside) 0 0

abbrev pub origin_of : LineReader → Origin
origin_of r = r.state.held.origin

-- A reader of an origin that is outside of a candidate and has taken so many bytes. What is in its array, its length and
-- its start doesn't matter.
pub record ClosedAt (count : ℕ) (o : Origin) (r : LineReader) : Type 0 where
  pub array : length r.bytes ≡ capacity
  pub outside_is : r.state.held.mode ≡ Outside
  pub origin_is : origin_of r ≡ o
  pub count_is : r.state.count ≡ count

-- One that has taken none is as new.
abbrev pub AsNew : Origin → LineReader → Type 0
AsNew o r = ClosedAt 0 o r

-- ---- the struct as a count beside what holds the candidate, and back

abbrev pub counter_of : LineReader → Counter Holder
counter_of r = counter (holder r.bytes r.state.held) r.state.start r.state.count

abbrev pub reader_from : Counter Holder → LineReader
reader_from c = reader c.reader.bytes c.reader.held c.start c.count

-- ---- the calls

-- An outcome with its position, and the reader afterwards.
abbrev pub ReaderTurn : Type 0
ReaderTurn = Turn LineReader (Located Outcome)

abbrev pub turn_from : Turn (Counter Holder) (Located Outcome) → ReaderTurn
turn_from t = turn t.answer (reader_from t.next)

abbrev pub turn_of : LineReader → Call → ReaderTurn
turn_of r c = turn_from (counted_turn (located_rowing (origin_of r)) is_answer turn_held (counter_of r) c)

-- A byte is fed.
abbrev pub step_of : LineReader → ℕ → ReaderTurn
step_of r b = turn_of r (byte b)

-- The input ends.
abbrev pub finish_of : LineReader → ReaderTurn
finish_of r = turn_of r finish

abbrev pub outcome_at : LineReader → Call → Located Outcome
outcome_at r c = (turn_of r c).answer

abbrev pub next_after : LineReader → Call → LineReader
next_after r c = (turn_of r c).next

-- The answers of a new reader of an origin, each call on the reader as the last one left it.
abbrev pub reader_outcomes : Origin → List Call → List (Located Outcome)
reader_outcomes o calls = run outcome_at next_after (new_reader o) calls

-- ---- what a function returns

-- Over a lent array, with `bytes` in it afterwards. Nothing has the position 0.
pub record LentStepIs (bytes : List ℕ) (s : LentStep) (t : ReaderTurn) : Type 0 where
  pub told_is : told_means s.told ≡ summary_of (answer_in t.answer)
  pub position_is : s.position ≡ position_in t.answer
  pub next_is : lent_reader bytes s.state ≡ t.next

-- What an answer by value means.
abbrev pub answer_means : StepAnswer → Located ValueAnswer
answer_means a =
    located_as (told_means a.told) a.position (record { told = told_means a.told; contents = a.contents })

-- By value: the whole answer is that of the outcome.
pub record StepIs (s : Stepped) (t : ReaderTurn) : Type 0 where
  pub answer_is : answer_means s.answer ≡ located_by value_answer_of t.answer
  pub position_is : s.answer.position ≡ position_in t.answer
  pub next_is : s.next ≡ t.next

-- ---- what a caller has of an answer

-- The outcome that an answer over a lent array and that array hold.
abbrev pub lent_outcome : LentStep → List ℕ → Located Outcome
lent_outcome s bytes = located_outcome (told_means s.told) s.position bytes
