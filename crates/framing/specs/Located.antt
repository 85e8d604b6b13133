-- The reference decoder with positions (document 02, No. 7), a second machine beside the plain one over the same
-- parameters. It counts the bytes that it takes, tells with each answer where in that count the start flag of the
-- answer's candidate stood, and takes so many bytes and no more.
use Rattle.std.specs.Prelude.{List, [], ◌∷◌, ◌++◌, ℕ, ◌+◌, ltb}
use Rattle.lists.specs.Choice.{pick}
use Rattle.lists.specs.Machine.{run}
use Rattle.framing.specs.Reference.{Call, byte, finish, Role, starts, stops, plain, Candidate, none, opened, Protocol}

-- An answer with its position, that of its candidate's start flag, or 0 where a byte can't be taken. Nothing alone has
-- none.
pub data Located (A : Type 0) : Type 0 where
  unlocated : A → Located A
  located : (position : ℕ) → A → Located A

-- The answer without its position.
abbrev pub answer_in : {A : Type 0} → Located A → A
answer_in (unlocated a) = a
answer_in (located position a) = a

-- The position that is told, 0 where there is none.
abbrev pub position_in : {A : Type 0} → Located A → ℕ
position_in (unlocated a) = 0
position_in (located position a) = position

-- The same position with the answer told in another way.
abbrev pub located_by : {A B : Type 0} → (A → B) → Located A → Located B
located_by tell (unlocated a) = unlocated (tell a)
located_by tell (located position a) = located position (tell a)

-- The open candidate with the position of its start flag, or none.
pub data CandidateAt : Type 0 where
  no_candidate : CandidateAt
  candidate_at : (position : ℕ) → List ℕ → CandidateAt

-- The candidate without its position.
abbrev pub candidate_in : CandidateAt → Candidate
candidate_in no_candidate = none
candidate_in (candidate_at position s) = opened s

-- The open candidate, and how many bytes were taken since the decoder was new or the input ended.
pub record Counted : Type 0 where
  pub candidate : CandidateAt
  pub count : ℕ

abbrev pub counted : CandidateAt → ℕ → Counted
counted k n = record { candidate = k; count = n }

abbrev pub new_counted : Counted
new_counted = counted no_candidate 0

-- A protocol, how many bytes are taken from new or from the end of an input on, and the answer to each byte after them.
pub record LocatedProtocol (A : Type 0) : Type 0 where
  pub protocol : Protocol A
  pub limit : ℕ
  pub full : A

module _ {A : Type 0} (Q : LocatedProtocol A) where
  -- The answer to a byte of a role that is taken.
  abbrev pub byte_answer_at : Role → CandidateAt → ℕ → Located A
  byte_answer_at starts no_candidate b = unlocated Q.protocol.nothing
  byte_answer_at starts (candidate_at position s) b = located position Q.protocol.truncated
  byte_answer_at stops no_candidate b = unlocated Q.protocol.nothing
  byte_answer_at stops (candidate_at position s) b = located position (Q.protocol.judge (s ++ b ∷ []))
  byte_answer_at plain k b = unlocated Q.protocol.nothing

  -- The candidate that is open after it, where n bytes were taken before it.
  abbrev pub byte_after_at : Role → CandidateAt → (n b : ℕ) → CandidateAt
  byte_after_at starts k n b = candidate_at n (b ∷ [])
  byte_after_at stops k n b = no_candidate
  byte_after_at plain no_candidate n b = no_candidate
  byte_after_at plain (candidate_at position s) n b = candidate_at position (s ++ b ∷ [])

  -- The answer to the end of input.
  abbrev pub end_answer_at : CandidateAt → Located A
  end_answer_at no_candidate = unlocated Q.protocol.nothing
  end_answer_at (candidate_at position s) = located position Q.protocol.truncated

  -- A byte at a full count is refused before anything else, at position 0.
  abbrev pub located_answer : Counted → Call → Located A
  located_answer s (byte b) =
      pick (ltb s.count Q.limit) (byte_answer_at (Q.protocol.role b) s.candidate b) (located 0 Q.full)
  located_answer s finish = end_answer_at s.candidate

  -- Such a byte leaves the state as it was. A terminated candidate leaves the count running; the end of input alone sets
  -- it back.
  abbrev pub located_after : Counted → Call → Counted
  located_after s (byte b) =
      pick (ltb s.count Q.limit)
      (counted (byte_after_at (Q.protocol.role b) s.candidate s.count b) (s.count + 1)) s
  located_after s finish = new_counted

  -- The located reference decoder: an answer for each call of a list.
  abbrev pub located_reference : List Call → List (Located A)
  located_reference calls = run located_answer located_after new_counted calls
