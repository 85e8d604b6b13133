-- Bytes fed up to the first that is answered, and where their start flags stand.
use Rattle.std.specs.Prelude.{◌≡◌, Bool, true, false, List, ℕ, ◌-◌, take}
use Rattle.lists.specs.Choice.{pick}
use Rattle.candidate.specs.Outcome.{Outcome, nothing, Summary, silent, tells, told_means, summary_of}
use Rattle.framing.specs.Reference.{Role, starts, stops, plain}
use Rattle.framing.specs.Counting.{start_in}
use Rattle.framing.specs.Chunk.{FedTurn, fed_by}
use Rattle.frame.specs.Flags.{role_of}
use Rattle.candidate.specs.Holder.{Holder, holder, turn_held}
use Rattle.candidate.specs.declared.HeldChunk.{HeldChunk}

-- Whether anything is told.
abbrev pub says : Summary → Bool
says silent = false
says (tells a) = true

-- Whether an outcome is an answer.
abbrev pub is_answer : Outcome → Bool
is_answer o = says (summary_of o)

-- An outcome, the holder afterwards, and how many bytes were taken.
abbrev pub FedHeld : Type 0
FedHeld = FedTurn Holder Outcome

-- The bytes fed singly. With no answer all of them are taken.
abbrev pub feed_held : Holder → List ℕ → FedHeld
feed_held r s = fed_by nothing is_answer turn_held r s

-- How many of the bytes taken come before the one that is answered.
abbrev pub unanswered : FedHeld → ℕ
unanswered f = pick (is_answer f.answer) (f.taken - 1) f.taken

-- How many bytes there are up to and with the last start flag among them. 0 where there is none.
abbrev pub last_start : List ℕ → ℕ
last_start s = start_in role_of 0 1 s

-- Where the last start flag is known to be, after a byte of a role: at that byte's own place where it is one.
abbrev pub opened_by : {A : Type 0} → Role → (before place : A) → A
opened_by starts before place = place
opened_by stops before place = before
opened_by plain before place = before

-- ---- what a function returns

-- What is told and how many bytes were taken, with `bytes` in the lent array afterwards.
pub record HeldChunkIs (bytes : List ℕ) (s : HeldChunk) (t : FedHeld) : Type 0 where
  pub told_is : told_means s.told ≡ summary_of t.answer
  pub next_is : holder bytes s.held ≡ t.next
  pub taken_is : s.taken ≡ t.taken

-- The last start flag before the byte that is answered, and the last of all that were taken.
pub record Opens (input : List ℕ) (s : HeldChunk) (t : FedHeld) : Type 0 where
  pub began_is : s.began ≡ last_start (take (unanswered t) input)
  pub opened_is : s.opened ≡ last_start (take t.taken input)
