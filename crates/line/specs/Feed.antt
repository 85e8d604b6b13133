-- The call that takes a chunk: document 02, No. 4 and No. 7.
use Rattle.std.specs.Prelude.{◌≡◌, List, [], ◌∷◌, ℕ, ltb}
use Rattle.lists.specs.Choice.{pick}
use Rattle.framing.specs.Located.{Located, unlocated, located, answer_in, position_in}
use Rattle.framing.specs.Chunk.{FedTurn, fed_turn, later_by, cut_chunk}
use Rattle.candidate.specs.Outcome.{Told, Outcome, nothing, told_means, summary_of}
use Rattle.candidate.specs.Feed.{is_answer}
use Rattle.line.specs.Rowing.{most_bytes, full}
use Rattle.line.specs.Reader.{lent_reader, step_of}
use Rattle.line.specs.declared.LineReader.{LineReader}
use Rattle.line.specs.declared.ChunkStep.{ChunkStep}
use Rattle.line.specs.declared.ChunkAnswer.{ChunkAnswer}

-- An outcome with its position, the reader afterwards, and how many bytes were taken.
abbrev pub ChunkTurn : Type 0
ChunkTurn = FedTurn LineReader (Located Outcome)

-- No byte is taken, and nothing is told.
abbrev pub no_turn : LineReader → ChunkTurn
no_turn r = fed_turn (unlocated nothing) r 0

-- The bytes fed singly, up to the first that is answered, or before the first that the reader can't take.
unfoldable pub feed_of : LineReader → List ℕ → ChunkTurn
feed_of r [] = no_turn r
feed_of r (b ∷ bs) =
    pick (ltb r.state.count most_bytes)
    (pick (is_answer (answer_in (step_of r b).answer)) (fed_turn (step_of r b).answer (step_of r b).next 1)
    (later_by 1 (feed_of (step_of r b).next bs)))
    (no_turn r)

-- What a call on a chunk gives. One of more than 65,536 bytes is cut to its first 65,536. It is answered 16 only where
-- the reader can't take its first byte.
abbrev pub chunk_of : LineReader → List ℕ → ChunkTurn
chunk_of r [] = no_turn r
chunk_of r (b ∷ bs) =
    pick (ltb r.state.count most_bytes) (feed_of r (cut_chunk (b ∷ bs))) (fed_turn (located 0 full) r 0)

-- ---- what a function returns

-- What is told, its position and how many bytes were taken, with the reader that is left.
pub record ChunkIs (next : LineReader) (told : Told) (position taken : ℕ) (t : ChunkTurn) : Type 0 where
  pub told_is : told_means told ≡ summary_of (answer_in t.answer)
  pub position_is : position ≡ position_in t.answer
  pub next_is : next ≡ t.next
  pub taken_is : taken ≡ t.taken

-- Over a lent array, with `bytes` in it afterwards.
abbrev pub ChunkStepIs : (bytes : List ℕ) → ChunkStep → ChunkTurn → Type 0
ChunkStepIs bytes s t = ChunkIs (lent_reader bytes s.state) s.told s.position s.taken t

-- On a whole reader: what is answered, and every field of the reader afterwards.
abbrev pub ChunkAnswerIs : (next : LineReader) → ChunkAnswer → ChunkTurn → Type 0
ChunkAnswerIs next a t = ChunkIs next a.told a.position a.taken t
