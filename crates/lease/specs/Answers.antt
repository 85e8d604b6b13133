-- What each case of an answer means, in document 01's numbers, and the output afterwards.
use Rattle.std.specs.Prelude.{ℕ, List, [], ◌++◌, length, take, drop, Result, Ok, Err}
use Rattle.answer.specs.Answer.{Answer, result, refused, through}
use Rattle.answer.specs.Refusals.{number_of}
use Rattle.answer.specs.declared.Refusal.{Refusal}

-- Hold and release write nothing.
abbrev pub lease_means : Result (Unit {0}) Refusal → Answer (List ℕ)
lease_means (Ok u) = result []
lease_means (Err why) = refused (number_of why)

-- A stop tells the length of what it wrote.
abbrev pub written_length : Answer (List ℕ) → Answer ℕ
written_length a = through length a

-- The output afterwards, by the answer. A refusal leaves it as it is. After a result it is what was written, and then
-- the bytes that were there.
abbrev pub out_after : Answer (List ℕ) → List ℕ → List ℕ
out_after (refused n) out = out
out_after (result w) out = w ++ drop (length w) out

-- What a caller of stop has: the answer, and with a length that many bytes of the output.
unfoldable pub stop_told : Answer ℕ → (last : List ℕ) → Answer (List ℕ)
stop_told (result n) last = result (take n last)
stop_told (refused n) last = refused n
