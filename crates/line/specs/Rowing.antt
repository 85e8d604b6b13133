-- The rowing protocol at an origin with positions (document 02, No. 7), at which the located reference decoder is taken.
use Rattle.std.specs.Prelude.{◌≡◌, List, ℕ}
use Rattle.lists.specs.Choice.{Exactly}
use Rattle.answer.specs.Answer.{result, refused}
use Rattle.framing.specs.Located.{Located, answer_in, position_in, LocatedProtocol}
use Rattle.frame.specs.Origin.{admit}
use Rattle.frame.specs.Frame.{standard}
use Rattle.frame.specs.declared.Origin.{Origin}
use Rattle.candidate.specs.Outcome.{Outcome, nothing, judged, NotStandard}
use Rattle.candidate.specs.Rowing.{rowing}

-- How many bytes a line reader takes from new or from a finish on.
abbrev pub most_bytes : ℕ
most_bytes = 4294967295

-- What each byte after them is answered with.
abbrev pub full : Outcome
full = judged (refused 16)

abbrev pub located_rowing : Origin → LocatedProtocol Outcome
located_rowing o = record { protocol = rowing o; limit = most_bytes; full = full }

-- An outcome of a trace as it is at an origin: live, 17 in place of a standard frame.
abbrev pub outcome_from : Origin → Outcome → Outcome
outcome_from o nothing = nothing
outcome_from o (judged v) = judged (admit o v)

-- The outcomes of one call, on a live reader and on one of a trace: the live one is 17 exactly where that of the trace is
-- a standard frame, and is the same everywhere else.
pub record UnnamedLive (live traced : Outcome) : Type 0 where
  pub unnamed : Exactly (live ≡ judged (refused 17))
      ((contents : List ℕ) × (traced ≡ judged (result (standard contents))))
  pub same : NotStandard traced → live ≡ traced

-- The same with their positions, which are alike.
abbrev pub UnnamedAt : (live traced : Located Outcome) → Type 0
UnnamedAt live traced = UnnamedLive (answer_in live) (answer_in traced) × (position_in live ≡ position_in traced)
