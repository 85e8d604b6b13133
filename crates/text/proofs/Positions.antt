-- Positions change no answer: without them, the answers to a trace are those of the plain reference decoder.
use mathlib.Core.Path.{◌≡◌, refl, ap, ◌∙◌}
use mathlib.Core.List.{List, [], ◌∷◌, ◌++◌, map}
use Prim.Native.Nat.{ℕ, ◌+◌, ◌≤◌}
use native.Mathlib.Omega.{arith}
use lib.ListN.{length}
use Rattle.framing.specs.Reference.{finish, reference}
use Rattle.framing.specs.Demand3.{feed}
use Rattle.framing.specs.Located.{Located, answer_in, position_in, located_reference}
use Rattle.framing.specs.LocatedDemand3.{Within}
use Rattle.framing.proofs.Located.{without_positions}
use Rattle.frame.specs.Verdict.{Verdict}
use Rattle.frame.specs.declared.Origin.TheVariants.{Trace}
use Rattle.candidate.specs.Outcome.{Outcome, nothing, judged, with_answer, answers_in}
use Rattle.candidate.specs.Rowing.{rowing}
use Rattle.line.specs.Rowing.{most_bytes, located_rowing}
use Rattle.text.specs.Text.{with_located, located_in, answers_to, verdicts}

verdicts_are : (outcomes : List (Located Outcome)) → verdicts (located_in outcomes) ≡ answers_in (map answer_in outcomes)
verdicts_are [] = refl
verdicts_are (a ∷ outcomes) =
    by_outcome (position_in a) (answer_in a) (located_in outcomes) (answers_in (map answer_in outcomes))
    (verdicts_are outcomes)
  where
    by_outcome : (position : ℕ) (o : Outcome) (answers : List (Located Verdict)) (vs : List Verdict)
        → verdicts answers ≡ vs → verdicts (with_located position o answers) ≡ with_answer o vs
    by_outcome position nothing answers vs e = e
    by_outcome position (judged v) answers vs e = ap (λ (l : List Verdict). v ∷ l) e

within_limit : (n : ℕ) (bytes : List ℕ) → n + length bytes ≤ most_bytes → Within most_bytes n (feed bytes ++ finish ∷ [])
within_limit n [] h = (omega arith, omega arith)
within_limit n (b ∷ bytes) h = within_limit (n + 1) bytes (omega arith)

-- Of a trace of at most 4,294,967,295 bytes.
pub same_verdicts : (trace : List ℕ) → length trace ≤ most_bytes
    → verdicts (answers_to trace) ≡ answers_in (reference (rowing Trace) (feed trace ++ finish ∷ []))
same_verdicts trace h =
    verdicts_are (located_reference (located_rowing Trace) (feed trace ++ finish ∷ []))
    ∙ ap answers_in
    (without_positions (located_rowing Trace) (feed trace ++ finish ∷ []) (within_limit 0 trace (omega arith)))
