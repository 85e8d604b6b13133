-- Contracts of private functions, which no caller reads: candidates that stand whole in a chunk.
use Rattle.std.specs.Prelude.{◌≡◌, List, length, take, ℕ, ◌≤◌, ◌<◌, ◌⊎◌, Option, None, Some, Result}
use Rattle.lists.specs.Splice.{splice}
use Rattle.answer.specs.Answer.{Answer, result, refused}
use Rattle.frame.specs.Leading.{leading_count}
use Rattle.frame.specs.Verdict.{verdict, body_of}
use Rattle.frame.specs.Origin.{admit}
use Rattle.frame.specs.declared.Origin.{Origin}
use Rattle.answer.specs.declared.Refusal.{Refusal}
use Rattle.frame.specs.Answers.{FrameOutline, standard_outline, extended_outline, read_means, judge_answer, left_in}
use Rattle.candidate.specs.Outcome.{capacity}
use Rattle.frame.specs.declared.Outline.{Outline}
use Rattle.framing.specs.declared.Whole.{Whole}

-- How many contents bytes an answer tells of.
abbrev pub contents_count : Answer FrameOutline → ℕ
contents_count (result (standard_outline len)) = len
contents_count (result (extended_outline to from len)) = len
contents_count (refused n) = 0

-- What a whole candidate of an origin leaves in an array: what its bytes leave there that were held, and judged in
-- place.
abbrev pub left_by_whole : Origin → (bytes wire : List ℕ) → List ℕ
left_by_whole o bytes wire = left_in (admit o (verdict wire)) (splice bytes 0 (body_of wire))

-- A candidate that was judged as it stands.
pub record JudgedWhole (o : Origin) (bytes wire left : List ℕ) (told : Result Outline Refusal) : Type 0 where
  pub array : length bytes ≡ capacity
  pub told_is : read_means told ≡ judge_answer (admit o (verdict wire))
  pub left_is : left ≡ left_by_whole o bytes wire

-- What was made of the candidate that an input begins with, and what it leaves in an array. Where there is none of at
-- most 120 bytes the array stays as it was.
abbrev pub Judges : Origin → (bytes input left : List ℕ) → Option (Whole Outline) → Type 0
Judges o bytes input left None = ((leading_count input ≡ 0) ⊎ (120 < leading_count input)) × (left ≡ bytes)
Judges o bytes input left (Some w) =
    (w.taken ≡ leading_count input) × (0 < w.taken) × (w.taken ≤ 120) × JudgedWhole o bytes (take w.taken input) left w.told
