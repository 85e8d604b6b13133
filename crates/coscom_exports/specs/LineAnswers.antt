-- What the exported functions of the line reader answer and leave.
use Rattle.std.specs.Prelude.{ℕ, ◌≡◌, List}
use Rattle.coscom_line.specs.Outcome.{summary_of}
use Rattle.coscom_line.specs.Reader.{ReaderTurn, finish_of}
use Rattle.coscom_line.specs.Chunk.{ChunkTurn, chunk_of}
use Rattle.exports.specs.Packed.{Tells}
use Rattle.coscom_exports.specs.Answers.{line_fields}
use Rattle.coscom_exports.specs.LineState.{packed_state, reader_in}

-- A chunk fed to the reader that an array and a number are.
abbrev pub fed_to : List ℕ → (state : ℕ) → List ℕ → ChunkTurn
fed_to bytes state input = chunk_of (reader_in bytes state) input

abbrev pub finished : List ℕ → (state : ℕ) → ReaderTurn
finished bytes state = finish_of (reader_in bytes state)

-- A number that is answered, with what stands in the array, the number of the state and the count of the bytes taken
-- afterwards.
pub record FedAs (answer : ℕ) (bytes : List ℕ) (state taken : ℕ) (f : ChunkTurn) : Type 0 where
  pub answered : Tells answer (line_fields (summary_of f.answer))
  pub bytes_left : bytes ≡ f.next.bytes
  pub state_left : state ≡ packed_state f.next.state
  pub count : taken ≡ f.taken

-- What a finish answers and leaves; the array is not lent to it.
pub record FinishedAs (answer state : ℕ) (t : ReaderTurn) : Type 0 where
  pub answered : Tells answer (line_fields (summary_of t.answer))
  pub state_left : state ≡ packed_state t.next.state
