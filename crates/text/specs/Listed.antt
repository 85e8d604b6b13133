-- The line of a listing that a byte of the trace, or its end, gets: which one, and that it gets none where nothing is told
-- (document 02, No. 7).
use Rattle.std.specs.Prelude.{◌≡◌, List, [], ◌∷◌, ◌++◌, ℕ, ◌+◌, length}
use Rattle.lists.specs.Choice.{Exactly}
use Rattle.framing.specs.Reference.{Call}
use Rattle.framing.specs.Located.{Located, located, located_reference}
use Rattle.framing.specs.LocatedTable.{ToldAt}
use Rattle.frame.specs.Verdict.{Verdict}
use Rattle.frame.specs.declared.Origin.TheVariants.{Trace}
use Rattle.candidate.specs.Outcome.{judged}
use Rattle.line.specs.Rowing.{located_rowing}
use Rattle.text.specs.Lines.{line}
use Rattle.text.specs.Text.{located_in, answers_to, lines, text}

-- A call after others, of those that are the bytes of a trace and its end: the answers to the trace are those to the calls
-- before it, its own if it has one, and later ones. Its own is exactly what the table tells of the calls before it, at
-- that position, and it is a line of the text, the next one after those of the earlier answers.
pub record ListedAt (trace : List ℕ) (calls : List Call) (c : Call) : Type 0 where
  pub earlier : List (Located Verdict)
  pub own : List (Located Verdict)
  pub later : List (Located Verdict)
  pub earlier_are : earlier ≡ located_in (located_reference (located_rowing Trace) calls)
  pub answers_are : answers_to trace ≡ earlier ++ (own ++ later)
  pub one_exactly : (position : ℕ) (v : Verdict)
      → Exactly (own ≡ located position v ∷ []) (ToldAt (located_rowing Trace) calls c position (judged v))
  pub none_else : ((position : ℕ) (v : Verdict) → ToldAt (located_rowing Trace) calls c position (judged v) → ⊥) → own ≡ []
  pub line_is : (position : ℕ) (v : Verdict) → own ≡ located position v ∷ []
      → (rest : List ℕ) × (text trace ≡ lines 0 earlier ++ (line (length earlier + 1) position v ++ rest))
