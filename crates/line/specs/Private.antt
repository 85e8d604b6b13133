-- Contracts of private functions, which no caller reads: the array beside an answer, and positions from places in a
-- chunk.
use Rattle.std.specs.Prelude.{◌≡◌, List, [], ℕ, ◌+◌, ◌-◌, eqb, take}
use Rattle.lists.specs.Choice.{pick}
use Rattle.answer.specs.Answer.{result, refused}
use Rattle.framing.specs.Located.{answer_in, position_in}
use Rattle.frame.specs.Answers.{standard_outline, extended_outline}
use Rattle.candidate.specs.Outcome.{Summary, silent, tells, told_means, summary_of}
use Rattle.candidate.specs.declared.HeldChunk.{HeldChunk}
use Rattle.line.specs.Answers.{located_outcome, padded}
use Rattle.line.specs.Reader.{ReaderTurn}
use Rattle.line.specs.declared.ChunkStep.{ChunkStep}

-- The enum, the position and the array that a call leaves tell the whole outcome.
abbrev pub Whole : ReaderTurn → Type 0
Whole t =
    located_outcome (summary_of (answer_in t.answer)) (position_in t.answer) t.next.bytes ≡ t.answer

-- The first bytes of an array, as many as the contents of a frame that is told, and zeros after them.
abbrev pub beside_told : Summary → List ℕ → List ℕ
beside_told silent bytes = padded []
beside_told (tells (result (standard_outline len))) bytes = padded (take len bytes)
beside_told (tells (result (extended_outline to from len))) bytes = padded (take len bytes)
beside_told (tells (refused n)) bytes = padded []

-- The position of what is told, 0 where nothing is.
abbrev pub told_at : Summary → ℕ → ℕ
told_at silent position = 0
told_at (tells a) position = position

-- The position of the start flag that ends the first `place` bytes of a chunk before which `count` bytes were taken. 0
-- stands for no start flag in the chunk, and the one from before it stays.
abbrev pub place_at : (start count place : ℕ) → ℕ
place_at start count place = pick (eqb place 0) start (count + (place - 1))

-- What bytes that were taken make of a start and a count.
pub record Advances (start count : ℕ) (fed : HeldChunk) (r : ChunkStep) : Type 0 where
  pub told_is : r.told ≡ fed.told
  pub position_is : r.position ≡ told_at (told_means fed.told) (place_at start count fed.began)
  pub state_is : r.state
      ≡ record { held = fed.held; start = place_at start count fed.opened; count = count + fed.taken }
  pub taken_is : r.taken ≡ fed.taken
