-- Contracts of private functions, which no caller reads: the array beside an answer.
use Rattle.std.specs.Prelude.{◌≡◌, List, [], ℕ, take}
use Rattle.answer.specs.Answer.{result, refused}
use Rattle.coscom_line.specs.Outcome.{Summary, silent, tells, summary_of, outcome_of, padded}
use Rattle.coscom_line.specs.Reader.{ReaderTurn}

-- What is told and the array that a call leaves make the whole outcome.
abbrev pub Whole : ReaderTurn → Type 0
Whole t = outcome_of (summary_of t.answer) t.next.bytes ≡ t.answer

-- The first bytes of an array, as many as the data unit of a packet that is told, and zeros after them.
abbrev pub beside_told : Summary → List ℕ → List ℕ
beside_told silent bytes = padded []
beside_told (tells (result o)) bytes = padded (take o.len bytes)
beside_told (tells (refused n)) bytes = padded []
