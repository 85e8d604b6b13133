-- What the exported functions of the line reader answer.
use Rattle.std.specs.Prelude.{ℕ, List, ◌≡◌}
use Rattle.frame.specs.declared.Origin.{Origin}
use Rattle.framing.specs.Located.{answer_in, position_in}
use Rattle.candidate.specs.Outcome.{Summary, silent, tells, summary_of}
use Rattle.line.specs.Feed.{ChunkTurn, chunk_of}
use Rattle.line.specs.Reader.{ReaderTurn, finish_of}
use Rattle.exports.specs.Packed.{Fields, Tells}
use Rattle.exports.specs.Answers.{result_fields, read_fields}
use Rattle.exports.specs.LineState.{packed_state, packed_counts, reader_in}

-- Where nothing is told the kind is 2, which is no kind of frame, and all else is 0. A frame or a refusal is told as
-- reading tells it.
abbrev pub line_fields : Summary → Fields
line_fields silent = result_fields 2 0 0 0
line_fields (tells a) = read_fields a

-- A chunk of an origin fed to the reader that an array and two numbers are.
abbrev pub fed_to : Origin → List ℕ → (state counts : ℕ) → List ℕ → ChunkTurn
fed_to o bytes state counts input = chunk_of (reader_in o bytes state counts) input

abbrev pub finished : Origin → List ℕ → (state counts : ℕ) → ReaderTurn
finished o bytes state counts = finish_of (reader_in o bytes state counts)

-- A number that is answered, with what stands in the array, the two numbers of the state, the count of the bytes taken
-- and the position afterwards.
pub record FedAs (answer : ℕ) (bytes : List ℕ) (state counts taken position : ℕ) (f : ChunkTurn) : Type 0 where
  pub answered : Tells answer (line_fields (summary_of (answer_in f.answer)))
  pub position_is : position ≡ position_in f.answer
  pub bytes_left : bytes ≡ f.next.bytes
  pub state_left : state ≡ packed_state f.next.state
  pub counts_left : counts ≡ packed_counts f.next.state
  pub count : taken ≡ f.taken

-- What a finish answers and leaves; the array is not lent to it.
pub record FinishedAs (answer state counts position : ℕ) (t : ReaderTurn) : Type 0 where
  pub answered : Tells answer (line_fields (summary_of (answer_in t.answer)))
  pub position_is : position ≡ position_in t.answer
  pub state_left : state ≡ packed_state t.next.state
  pub counts_left : counts ≡ packed_counts t.next.state
