-- What a caller has of an answer: the enum and the position beside it, and a frame's contents in an array.
use Rattle.std.specs.Prelude.{List, [], ◌++◌, ℕ, ◌-◌, length, replicate}
use Rattle.answer.specs.Answer.{result, refused}
use Rattle.framing.specs.Located.{Located, unlocated, located, located_by}
use Rattle.frame.specs.Frame.{contents_of}
use Rattle.candidate.specs.Outcome.{Outcome, nothing, judged, Summary, silent, tells, summary_of, outcome_of, capacity}

-- What is told has the position beside it, and nothing has none.
abbrev pub located_as : {A : Type 0} → Summary → (position : ℕ) → A → Located A
located_as silent position a = unlocated a
located_as (tells x) position a = located position a

-- The outcome, with its position, that a summary, a position and an array whose first bytes are the contents make.
abbrev pub located_outcome : Summary → (position : ℕ) → List ℕ → Located Outcome
located_outcome told position bytes = located_as told position (outcome_of told bytes)

-- ---- an answer by value

-- Bytes, and zeros after them to 118 in all.
abbrev pub padded : List ℕ → List ℕ
padded s = s ++ replicate (capacity - length s) 0

-- The contents of a frame. Nothing else has any.
abbrev pub contents_told : Outcome → List ℕ
contents_told nothing = []
contents_told (judged (refused n)) = []
contents_told (judged (result f)) = contents_of f

-- What an answer by value is, but for its position: what its enum means, and every byte of its array.
pub record ValueAnswer : Type 0 where
  pub told : Summary
  pub contents : List ℕ

-- The answer by value that an outcome is: the contents stand first, and all after them is zero.
abbrev pub value_answer_of : Outcome → ValueAnswer
value_answer_of o = record { told = summary_of o; contents = padded (contents_told o) }

-- The outcome, with its position, that an answer by value tells.
abbrev pub value_outcome : Located ValueAnswer → Located Outcome
value_outcome a = located_by (λ (x : ValueAnswer). outcome_of x.told x.contents) a
