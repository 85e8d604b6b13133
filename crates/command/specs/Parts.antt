-- A part of a lent slice: the bytes that it holds, and where in the slice it stands (document 01: "its data as the part
-- of the lent contents where it stands").
use Rattle.std.specs.Prelude.{ℕ, ◌+◌, ◌≡◌, List, leb, length}
use Rattle.std.specs.Borrow.{Bor}
use Rattle.lists.specs.Choice.{pick}
use Rattle.answer.specs.Answer.{Answer, result, refused}
use Rattle.command.specs.Entries.{Extent, found}
use Rattle.command.specs.Answers.{part_of}

-- The slice r holds these bytes and stands at an index of the slice s: it points into the same block of memory, so many
-- bytes further on.
pub record StandsAt (s r : Bor (List ℕ)) (at : ℕ) (bytes : List ℕ) : Type 0 where
  pub holds : r.now ≡ bytes
  pub block : r.ref_ptr.0 ≡ s.ref_ptr.0
  pub place : r.ref_ptr.1 ≡ at + s.ref_ptr.1

-- Where a part that is asked for at an index stands: at that index, the end of the list included, and at the beginning
-- where the index is past the end.
abbrev pub place_in : List ℕ → ℕ → ℕ
place_in s at = pick (leb at (length s)) at 0

-- The index at which the data that an answer names starts. A refusal names none, and gives the beginning.
abbrev pub start_of : Answer Extent → ℕ
start_of (result (found b start len)) = start
start_of (refused n) = 0

-- The slice r is the data that an answer about the slice s names, and stands where they stand in s, empty data too.
abbrev pub IsData : (s r : Bor (List ℕ)) → Answer Extent → Type 0
IsData s r a = StandsAt s r (start_of a) (part_of s.now a)
