-- The papers' tables of writing and of measuring a frame, over the conditions on a frame at an origin. None uses the
-- drafts by which an answer is computed.
use Rattle.std.specs.Prelude.{ℕ, ◌≤◌, ◌<◌, List, ◌++◌, length, drop}
use Rattle.answer.specs.Answer.{Answer, result, refused}
use Rattle.frame.specs.Frame.{Frame, wire_of}
use Rattle.frame.specs.Conditions.{WithinLimit, Sendable}
use Rattle.frame.specs.declared.Origin.{Origin}

-- What writing a frame is answered, and the output afterwards: live 17 where it names no sender, then 2 where it is over
-- the limit, then 1, then its length.
pub data WriteJudged (o : Origin) (f : Frame) (out : List ℕ) : Answer ℕ → List ℕ → Type 0 where
  not_sent : (Sendable o f → ⊥) → WriteJudged o f out (refused 17) out
  over_limit : Sendable o f → (WithinLimit (wire_of f) → ⊥) → WriteJudged o f out (refused 2) out
  no_room_to_write : Sendable o f → WithinLimit (wire_of f) → length out < length (wire_of f)
      → WriteJudged o f out (refused 1) out
  written : Sendable o f → WithinLimit (wire_of f) → length (wire_of f) ≤ length out
      → WriteJudged o f out (result (length (wire_of f))) (wire_of f ++ drop (length (wire_of f)) out)

-- What asking for a frame's length on the wire is answered: live 17 where it names no sender, then 2 where it is over
-- the limit, else its length.
pub data LengthJudged (o : Origin) (f : Frame) : Answer ℕ → Type 0 where
  not_measured : (Sendable o f → ⊥) → LengthJudged o f (refused 17)
  too_long : Sendable o f → (WithinLimit (wire_of f) → ⊥) → LengthJudged o f (refused 2)
  takes : Sendable o f → WithinLimit (wire_of f) → LengthJudged o f (result (length (wire_of f)))
