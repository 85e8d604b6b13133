-- The text of a trace: a line for each answer of the located reference decoder, then the totals (document 01,
-- "Listing"; document 02, No. 7).
use Rattle.std.specs.Prelude.{false, List, [], ◌∷◌, ◌++◌, map, ℕ, ◌+◌}
use Rattle.framing.specs.Reference.{finish}
use Rattle.framing.specs.Located.{Located, located, answer_in, position_in, located_reference}
use Rattle.framing.specs.Demand3.{feed}
use Rattle.answer.specs.Answer.{result, refused}
use Rattle.frame.specs.Verdict.{Verdict}
use Rattle.candidate.specs.Outcome.{Outcome, nothing, judged, answers_in}
use Rattle.frame.specs.declared.Origin.TheVariants.{Trace}
use Rattle.line.specs.Rowing.{located_rowing}
use Rattle.text.specs.Lines.{line, totals}
use Rattle.text.specs.Strays.{strays}

-- ---- answers

-- An outcome at a position, before others, where it is an answer.
abbrev pub with_located : (position : ℕ) → Outcome → List (Located Verdict) → List (Located Verdict)
with_located position nothing answers = answers
with_located position (judged v) answers = located position v ∷ answers

-- The answers among the outcomes of calls, each with its position: those that are not nothing, in order.
abbrev pub located_in : List (Located Outcome) → List (Located Verdict)
located_in [] = []
located_in (a ∷ outcomes) = with_located (position_in a) (answer_in a) (located_in outcomes)

-- The located reference decoder's answers to a trace: to its bytes, and to the finish.
abbrev pub answers_to : List ℕ → List (Located Verdict)
answers_to trace = located_in (located_reference (located_rowing Trace) (feed trace ++ finish ∷ []))

-- Answers without their positions.
abbrev pub verdicts : List (Located Verdict) → List Verdict
verdicts answers = map answer_in answers

-- How many answers are frames, and how many are refusals.
abbrev pub frames : List Verdict → ℕ
frames [] = 0
frames (result f ∷ vs) = 1 + frames vs
frames (refused number ∷ vs) = frames vs

abbrev pub refusals : List Verdict → ℕ
refusals [] = 0
refusals (result f ∷ vs) = refusals vs
refusals (refused number ∷ vs) = 1 + refusals vs

-- ---- the text

-- The lines of answers that come after n others: the first has the number n + 1, and each the next number.
abbrev pub lines : (n : ℕ) → List (Located Verdict) → List ℕ
lines n [] = []
lines n (a ∷ answers) = line (n + 1) (position_in a) (answer_in a) ++ lines (n + 1) answers

-- The whole text.
abbrev pub text : List ℕ → List ℕ
text trace =
    lines 0 (answers_to trace)
    ++ totals (frames (verdicts (answers_to trace))) (refusals (verdicts (answers_to trace))) (strays false trace)

-- ---- one call

-- How many frames and how many refusals a call is answered with, 1 or 0.
abbrev pub frame_one : Outcome → ℕ
frame_one o = frames (answers_in (o ∷ []))

abbrev pub refused_one : Outcome → ℕ
refused_one o = refusals (answers_in (o ∷ []))
