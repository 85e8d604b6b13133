-- What a call on a line reader is answered with, and what a caller has of it: document 01, "The line"; document 02,
-- No. 3.
use Rattle.std.specs.Prelude.{◌≡◌, Bool, true, false, List, [], ◌++◌, ℕ, ◌-◌, length, replicate}
use Rattle.std.specs.Prelude.{Option, Some, None, Result}
use Rattle.answer.specs.Answer.{Answer, result, refused}
use Rattle.answer.specs.declared.Refusal.{Refusal}
use Rattle.coscom.specs.Verdict.{Verdict}
use Rattle.coscom.specs.Answers.{PacketOutline, read_means, judge_answer, packet_read}
use Rattle.coscom.specs.declared.Outline.{Outline}

-- Nothing, or a verdict: a packet with its header and data unit, or a refusal's number.
pub data Outcome : Type 0 where
  nothing : Outcome
  judged : Verdict → Outcome

-- An outcome is not refusal 1, which a line reader never answers.
abbrev pub Not1 : Outcome → Type 0
Not1 o = o ≡ judged (refused 1) → ⊥

-- What a call tells: nothing, a packet's outline or a refusal.
abbrev pub Told : Type 0
Told = Option (Result Outline Refusal)

-- An outcome without the data unit: what a `Told` holds.
pub data Summary : Type 0 where
  silent : Summary
  tells : Answer PacketOutline → Summary

abbrev pub told_means : Told → Summary
told_means None = silent
told_means (Some read) = tells (read_means read)

abbrev pub summary_of : Outcome → Summary
summary_of nothing = silent
summary_of (judged v) = tells (judge_answer v)

-- The outcome that a summary and an array whose first bytes are the data unit make.
abbrev pub outcome_of : Summary → List ℕ → Outcome
outcome_of silent bytes = nothing
outcome_of (tells a) bytes = judged (packet_read a bytes)

-- Whether anything is told.
abbrev pub says : Summary → Bool
says silent = false
says (tells a) = true

-- Whether an outcome is an answer.
abbrev pub is_answer : Outcome → Bool
is_answer o = says (summary_of o)

-- The most bytes that may stand between the flags of a packet.
abbrev pub capacity : ℕ
capacity = 254

abbrev pub zeros : List ℕ
zeros = replicate capacity 0

-- ---- an answer by value

-- Bytes, and zeros after them to 254 in all.
abbrev pub padded : List ℕ → List ℕ
padded s = s ++ replicate (capacity - length s) 0

-- The data unit of a packet. Nothing else has any.
abbrev pub unit_told : Outcome → List ℕ
unit_told nothing = []
unit_told (judged (refused n)) = []
unit_told (judged (result p)) = p.unit

-- What an answer by value is: what is told, and every byte of its array.
pub record ValueAnswer : Type 0 where
  pub told : Summary
  pub unit : List ℕ

-- The answer by value that an outcome is: the data unit stands first, and all after it is zero.
abbrev pub value_answer_of : Outcome → ValueAnswer
value_answer_of o = record { told = summary_of o; unit = padded (unit_told o) }

-- The outcome that an answer by value tells.
abbrev pub value_outcome : ValueAnswer → Outcome
value_outcome a = outcome_of a.told a.unit
