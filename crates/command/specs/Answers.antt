-- What each case of an answer means, in document 01's numbers.
use Rattle.std.specs.Prelude.{ℕ, ◌+◌, ◌≤◌, List, [], length, take, drop, Result, Ok, Err}
use Rattle.answer.specs.Answer.{Answer, result, refused}
use Rattle.answer.specs.Refusals.{number_of}
use Rattle.answer.specs.declared.Refusal.{Refusal}
use Rattle.answer.specs.declared.Refusal.TheVariants.{BadCount}
use Rattle.command.specs.Entries.{Parsed, unsound, sound, Extent, found}
use Rattle.command.specs.declared.entries.Entry.{Entry}
use Rattle.command.specs.declared.entries.Unsound.{Unsound}

abbrev pub found_means : Result Entry Refusal → Answer Extent
found_means (Ok e) = result (found e.byte e.start e.len)
found_means (Err why) = refused (number_of why)

-- The part of the contents that an answer names, none for a refusal.
abbrev pub part_of : List ℕ → Answer Extent → List ℕ
part_of s (result (found b start len)) = take len (drop start s)
part_of s (refused n) = []

-- What an answer names stands within the contents.
abbrev pub InContents : List ℕ → Answer Extent → Type 0
InContents s (result (found b start len)) = start + len ≤ length s
InContents s (refused n) = Unit {0}

-- What counting entries tells: how many there are, or a refusal's number and the index of the byte of the entry that
-- fails.
pub data CountAnswer : Type 0 where
  entry_count : (n : ℕ) → CountAnswer
  fails_at : (number at : ℕ) → CountAnswer

abbrev pub counted_means : Result ℕ Unsound → CountAnswer
counted_means (Ok n) = entry_count n
counted_means (Err u) = fails_at (number_of BadCount) u.at

-- How many entries there are, the first of them at index `from`; or 7 and the index of the entry whose count is missing
-- or goes beyond the end.
unfoldable pub counted : (from : ℕ) → Parsed → CountAnswer
counted from (unsound at) = fails_at 7 (from + at)
counted from (sound es) = entry_count (length es)
