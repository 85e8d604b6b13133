-- The call that takes a chunk, and the same bytes fed singly: document 02, No. 4.
use Rattle.std.specs.Prelude.{◌≡◌, List, [], ◌∷◌, ℕ, zero, suc, ◌≤◌, length}
use Rattle.answer.specs.Answer.{result}
use Rattle.framing.specs.Reference.{Call}
use Rattle.framing.specs.Chunk.{FedTurn, fed_by, cut_chunk, last_answered, FirstSingly, Singly}
use Rattle.coscom.specs.Packet.{Packet, wire_of}
use Rattle.coscom_line.specs.Outcome.{Outcome, nothing, judged, Told, told_means, summary_of, is_answer}
use Rattle.coscom_line.specs.Reader.{lent_reader, turn_of}
use Rattle.coscom_line.specs.declared.LineReader.{LineReader}
use Rattle.coscom_line.specs.declared.ChunkStep.{ChunkStep}
use Rattle.coscom_line.specs.declared.ChunkAnswer.{ChunkAnswer}

-- An outcome, the reader afterwards, and how many bytes were taken.
abbrev pub ChunkTurn : Type 0
ChunkTurn = FedTurn LineReader Outcome

-- The bytes fed singly, up to the first that is answered. With no answer all of them are taken.
abbrev pub feed_of : LineReader → List ℕ → ChunkTurn
feed_of r s = fed_by nothing is_answer turn_of r s

-- What a call on a chunk gives. One of more than 65,536 bytes is cut to its first 65,536.
abbrev pub chunk_of : LineReader → List ℕ → ChunkTurn
chunk_of r s = feed_of r (cut_chunk s)

-- ---- what a function returns

-- What is told and how many bytes were taken, with the reader that is left.
pub record ChunkIs (next : LineReader) (told : Told) (taken : ℕ) (t : ChunkTurn) : Type 0 where
  pub told_is : told_means told ≡ summary_of t.answer
  pub next_is : next ≡ t.next
  pub taken_is : taken ≡ t.taken

-- Over a lent array, with `bytes` in it afterwards.
abbrev pub ChunkStepIs : (bytes : List ℕ) → ChunkStep → ChunkTurn → Type 0
ChunkStepIs bytes s t = ChunkIs (lent_reader bytes s.state) s.told s.taken t

-- On a whole reader: what is answered, and every field of the reader afterwards.
abbrev pub ChunkAnswerIs : (next : LineReader) → ChunkAnswer → ChunkTurn → Type 0
ChunkAnswerIs next a t = ChunkIs next a.told a.taken t

-- ---- how far a chunk is taken

-- To its end where nothing is answered, and at least a byte of it where something is.
pub record TakenToAnswer (given : List ℕ) (taken : ℕ) (o : Outcome) : Type 0 where
  pub within : taken ≤ length given
  pub all : o ≡ nothing → taken ≡ length given
  pub some : (o ≡ nothing → ⊥) → 1 ≤ taken

-- ---- the single calls that a chunk stands for

-- The outcomes of the bytes that a chunk took: nothing for each but the last, and the chunk's outcome for the last.
abbrev pub by_byte : ℕ → Outcome → List Outcome
by_byte n o = last_answered nothing n o

-- What the bytes that a chunk took, and its answer, are to a caller: an answer where no byte was taken stands by itself,
-- so that none is left out.
abbrev pub told_bytes : (taken : ℕ) → Outcome → List Outcome
told_bytes zero nothing = []
told_bytes zero (judged v) = judged v ∷ []
told_bytes (suc n) o = by_byte (suc n) o

-- What the bytes of a packet are answered with where they come first: nothing for each but the last, and the packet for
-- the last.
abbrev pub told_alone : Packet → List Outcome
told_alone p = by_byte (length (wire_of p)) (judged (result p))

-- A call that was given several took the first `taken` of them; its outcomes, and the reader that it left, are theirs
-- singly.
abbrev pub TakesFirst : LineReader → (given : List Call) → (taken : ℕ) → List Outcome → LineReader → Type 0
TakesFirst r given taken outcomes next = FirstSingly turn_of r given taken outcomes next

-- The outcomes and the last reader of calls made singly: each byte by itself, and each finish.
abbrev pub AsSingly : LineReader → (calls : List Call) → List Outcome → (last : LineReader) → Type 0
AsSingly r calls outcomes last = Singly turn_of r calls outcomes last
