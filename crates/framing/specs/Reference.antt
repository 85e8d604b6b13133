-- The reference decoder over a protocol's parameters (document 01, "The line": the rule for the line).
-- It is fed a list of calls alone, and keeps the open candidate as a list that grows without limit, or none.
use Rattle.std.specs.Prelude.{◌≡◌, List, [], ◌∷◌, ◌++◌, ℕ}
use Rattle.lists.specs.Choice.{Every}
use Rattle.lists.specs.Machine.{run}

-- A call on a line reader: one byte is fed, or the input ends.
pub data Call : Type 0 where
  byte : ℕ → Call
  finish : Call

-- What a byte does on the line.
pub data Role : Type 0 where
  starts : Role
  stops : Role
  plain : Role

-- No byte of a list starts or stops a candidate, by the role of each.
abbrev pub FlagFree : (ℕ → Role) → List ℕ → Type 0
FlagFree role bytes = Every (λ b. role b ≡ plain) bytes

-- The open candidate (document 01: the open stretch), its start flag first, or none.
pub data Candidate : Type 0 where
  none : Candidate
  opened : List ℕ → Candidate

-- A protocol: the role of each byte, and its answers. A candidate that was terminated is judged whole, both flags
-- included.
pub record Protocol (A : Type 0) : Type 0 where
  pub role : ℕ → Role
  pub nothing : A
  pub truncated : A
  pub judge : List ℕ → A

module _ {A : Type 0} (P : Protocol A) where
  -- The answer to a byte of a role.
  abbrev pub byte_answer : Role → Candidate → ℕ → A
  byte_answer starts none b = P.nothing
  byte_answer starts (opened s) b = P.truncated
  byte_answer stops none b = P.nothing
  byte_answer stops (opened s) b = P.judge (s ++ b ∷ [])
  byte_answer plain k b = P.nothing

  -- The candidate that is open after it.
  abbrev pub byte_after : Role → Candidate → ℕ → Candidate
  byte_after starts k b = opened (b ∷ [])
  byte_after stops k b = none
  byte_after plain none b = none
  byte_after plain (opened s) b = opened (s ++ b ∷ [])

  -- The answer to the end of input.
  abbrev pub end_answer : Candidate → A
  end_answer none = P.nothing
  end_answer (opened s) = P.truncated

  abbrev pub answer_to : Candidate → Call → A
  answer_to k (byte b) = byte_answer (P.role b) k b
  answer_to k finish = end_answer k

  abbrev pub candidate_after : Candidate → Call → Candidate
  candidate_after k (byte b) = byte_after (P.role b) k b
  candidate_after k finish = none

  -- The reference decoder: an answer for each call of a list.
  abbrev pub reference : List Call → List A
  reference calls = run answer_to candidate_after none calls
