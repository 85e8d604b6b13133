-- Demand 3 with positions: the line reader answers every list of calls as the located reference decoder does, and starts
-- again at each start flag.
use mathlib.Core.Path.{◌≡◌, refl, ap, ◌∙◌}
use mathlib.Core.List.{List, [], ◌∷◌}
use Rattle.lists.specs.Machine.{run}
use Rattle.framing.specs.Reference.{Call}
use Rattle.framing.specs.Located.{Located}
use Rattle.framing.specs.LocatedDemand3.{LocatedFollows}
use Rattle.framing.specs.Counting.{TellsApart, counted_turn}
use Rattle.framing.proofs.Located.{follows_same}
use Rattle.framing.proofs.Counting.{counted_follows}
use Rattle.frame.specs.declared.Origin.{Origin}
use Rattle.candidate.specs.Outcome.{Outcome}
use Rattle.candidate.specs.Rowing.{rowing}
use Rattle.candidate.specs.Holder.{holder, turn_held}
use Rattle.candidate.specs.Feed.{is_answer}
use Rattle.candidate.proofs.Follows.{StandsFor, held_follows, outside_stands}
use Rattle.line.specs.Rowing.{located_rowing}
use Rattle.line.specs.Reader.{new_reader, AsNew, counter_of, outcome_at, next_after, reader_outcomes}
use Rattle.line.specs.declared.LineReader.{LineReader}

-- nothing is told from a verdict
rowing_apart : (o : Origin) → TellsApart (rowing o) is_answer
rowing_apart o = record { nothing = refl; truncated = refl; judged = λ s. refl }

-- the struct is a count beside what holds the candidate, at any origin
counted-run : (o : Origin) (r : LineReader) (calls : List Call)
    → run outcome_at next_after r calls
    ≡ run (λ s c. (counted_turn (located_rowing o) is_answer turn_held s c).answer)
    (λ s c. (counted_turn (located_rowing o) is_answer turn_held s c).next) (counter_of r) calls
counted-run o r [] = refl
counted-run o r (c ∷ calls) =
    ap (λ (l : List (Located Outcome)). outcome_at r c ∷ l) (counted-run o (next_after r c) calls)

-- Demand 3 of any reader of an origin that is as new.
pub as_new_follows : (o : Origin) (r : LineReader) → AsNew o r
    → LocatedFollows (located_rowing o) (run outcome_at next_after r)
as_new_follows o r n =
    follows_same (located_rowing o) (run outcome_at next_after r) (λ calls. counted-run o r calls
    ∙ (counted_follows (located_rowing o) is_answer (rowing_apart o) turn_held (StandsFor o) (held_follows o) (counter_of r)
    (outside_stands o (holder r.bytes r.state.held) n.origin_is n.array n.outside_is) n.count_is).same
    calls)

pub new_as_new : (o : Origin) → AsNew o (new_reader o)
new_as_new o = record { array = refl; outside_is = refl; origin_is = refl; count_is = refl }

-- Demand 3, whole: every list of calls on a new reader is answered as the located reference decoder answers it, and D, W
-- and L as the minutes and No. 7 say.
pub reader_follows : (o : Origin) → LocatedFollows (located_rowing o) (reader_outcomes o)
reader_follows o = as_new_follows o (new_reader o) (new_as_new o)
