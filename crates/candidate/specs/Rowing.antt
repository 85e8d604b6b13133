-- The rowing protocol at an origin, at which the reference decoder and the bounded reader are taken.
use Rattle.std.specs.Prelude.{List, ℕ, leb}
use Rattle.lists.specs.Choice.{pick}
use Rattle.answer.specs.Answer.{refused}
use Rattle.framing.specs.Reference.{Protocol}
use Rattle.framing.specs.Bounded.{Bounds}
use Rattle.frame.specs.Flags.{role_of, kind_of, candidate_of}
use Rattle.frame.specs.Verdict.{verdict}
use Rattle.frame.specs.Origin.{admit}
use Rattle.frame.specs.Leading.{leading_count}
use Rattle.frame.specs.Answers.{left_in}
use Rattle.frame.specs.declared.Origin.{Origin}
use Rattle.frame.specs.declared.Kind.{Kind}
use Rattle.candidate.specs.Outcome.{Outcome, nothing, judged, capacity}

-- A terminated candidate is judged as the slice that it is, in frame reading's order without 1.
abbrev pub rowing : Origin → Protocol Outcome
rowing o =
    record {
      role = role_of;
      nothing = nothing;
      truncated = judged (refused 6);
      judge = λ s. judged (admit o (verdict s));
    }

-- The array after an answer: an accepted frame's contents stand first.
abbrev pub left_by : Outcome → List ℕ → List ℕ
left_by nothing bytes = bytes
left_by (judged v) bytes = left_in v bytes

-- A candidate of 118 bytes between its flags is held, and judged in place as the slice that it is; one with more is
-- refused with 2 when it is terminated.
abbrev pub rowing_bounds : Origin → Bounds Kind Outcome
rowing_bounds o =
    record {
      capacity = capacity;
      kind = kind_of;
      judge = λ kind body. judged (admit o (verdict (candidate_of kind body)));
      left = left_by;
      long = judged (refused 2);
    }

-- How many bytes the candidate has that bytes begin with, where it has at most 120 bytes with its flags. 0 where it has
-- more, or where there is none.
abbrev pub whole_count : List ℕ → ℕ
whole_count s = pick (leb (leading_count s) 120) (leading_count s) 0
