-- What a call on a line reader is answered with: document 01, "The line".
use Rattle.std.specs.Prelude.{◌≡◌, List, [], ◌∷◌, ℕ, ◌≤◌, replicate, Option, None, Some, Result}
use Rattle.answer.specs.Answer.{Answer, result, refused}
use Rattle.answer.specs.declared.Refusal.{Refusal}
use Rattle.frame.specs.Frame.{standard}
use Rattle.frame.specs.Verdict.{Verdict}
use Rattle.frame.specs.Answers.{FrameOutline, standard_outline, extended_outline, read_means, judge_answer, frame_read}
use Rattle.frame.specs.declared.Outline.{Outline}

-- Nothing, or a verdict: a frame with its kind, addresses and contents, or a refusal's number.
pub data Outcome : Type 0 where
  nothing : Outcome
  judged : Verdict → Outcome

-- A verdict before others, where an outcome is one.
abbrev pub with_answer : Outcome → List Verdict → List Verdict
with_answer nothing answers = answers
with_answer (judged v) answers = v ∷ answers

-- The answers among the outcomes of calls: those that are not nothing, in order.
abbrev pub answers_in : List Outcome → List Verdict
answers_in [] = []
answers_in (o ∷ outcomes) = with_answer o (answers_in outcomes)

-- An outcome is not refusal 1, which a line reader never answers.
abbrev pub Not1 : Outcome → Type 0
Not1 o = o ≡ judged (refused 1) → ⊥

-- An outcome is not refusal 17.
abbrev pub Not17 : Outcome → Type 0
Not17 o = o ≡ judged (refused 17) → ⊥

-- An outcome is no standard frame.
abbrev pub NotStandard : Outcome → Type 0
NotStandard o = (contents : List ℕ) → o ≡ judged (result (standard contents)) → ⊥

-- What a call tells: nothing, or the answer to a candidate.
abbrev pub Told : Type 0
Told = Option (Result Outline Refusal)

-- An outcome without the contents: what `Told` holds.
pub data Summary : Type 0 where
  silent : Summary
  tells : Answer FrameOutline → Summary

abbrev pub told_means : Told → Summary
told_means None = silent
told_means (Some read) = tells (read_means read)

abbrev pub summary_of : Outcome → Summary
summary_of nothing = silent
summary_of (judged v) = tells (judge_answer v)

-- The outcome that a summary and an array whose first bytes are the contents make.
abbrev pub outcome_of : Summary → List ℕ → Outcome
outcome_of silent bytes = nothing
outcome_of (tells a) bytes = judged (frame_read a bytes)

-- The most bytes that may stand between the flags of a frame.
abbrev pub capacity : ℕ
capacity = 118

abbrev pub zeros : List ℕ
zeros = replicate capacity 0

-- ---- bounds

-- A frame's contents are at most so many bytes.
abbrev pub ContentsFit : ℕ → Summary → Type 0
ContentsFit most silent = Unit {0}
ContentsFit most (tells (result (standard_outline len))) = len ≤ most
ContentsFit most (tells (result (extended_outline to from len))) = len ≤ most
ContentsFit most (tells (refused n)) = Unit {0}
