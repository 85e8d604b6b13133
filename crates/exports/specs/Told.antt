-- What a caller has in the number that an exported function answers, by what the number is taken apart to.
use Rattle.std.specs.Prelude.{ℕ, ◌≡◌, List, [], eqb}
use Rattle.lists.specs.Choice.{pick}
use Rattle.answer.specs.Answer.{Answer, result, refused, through}
use Rattle.frame.specs.Answers.{FrameOutline, standard_outline, extended_outline}
use Rattle.framing.specs.Located.{Located}
use Rattle.candidate.specs.Outcome.{Outcome, Summary, silent, tells}
use Rattle.line.specs.Answers.{located_outcome}
use Rattle.exports.specs.Packed.{Fields, unpacked}

-- 0 is a result, every other number a refusal.
abbrev pub told_as : {A : Type 0} → (number : ℕ) → A → Answer A
told_as number a = pick (eqb number 0) (result a) (refused number)

-- How many bytes, or a refusal: what writers, the length calls and stop answer.
unfoldable pub told_written : ℕ → Answer ℕ
told_written n = told_as (unpacked n).number (unpacked n).len

-- Hold and release write nothing.
unfoldable pub told_lease : ℕ → Answer (List ℕ)
told_lease n = through (λ (len : ℕ). []) (told_written n)

-- Kind 0 is standard, 1 extended.
abbrev pub outline_in : Fields → FrameOutline
outline_in f = pick (eqb f.kind 0) (standard_outline f.len) (extended_outline f.to f.from f.len)

-- What is told of the frame that was read, or a refusal.
unfoldable pub told_read : ℕ → Answer FrameOutline
told_read n = told_as (unpacked n).number (outline_in (unpacked n))

-- What a line reader tells: nothing where the kind is 2, else as reading tells it.
unfoldable pub told_line : ℕ → Summary
told_line n = pick (eqb (unpacked n).kind 2) silent (tells (told_read n))

-- The whole outcome with its position, by the number, the position beside it and the array that is left, whose first
-- bytes are a frame's contents.
abbrev pub told_located : (n position : ℕ) → List ℕ → Located Outcome
told_located n position bytes = located_outcome (told_line n) position bytes

-- A refusal's number is not 0, which stands for a result.
abbrev pub Numbered : {A : Type 0} → Answer A → Type 0
Numbered (result a) = Unit {0}
Numbered (refused n) = n ≡ 0 → ⊥

-- Where a line reader tells a refusal, its number is not 0.
abbrev pub NumberedLine : Summary → Type 0
NumberedLine silent = Unit {0}
NumberedLine (tells a) = Numbered a
