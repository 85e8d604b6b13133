-- Bytes given to a line reader in chunks, beside the same bytes fed singly.
use Rattle.std.specs.Prelude.{◌≡◌, List, ℕ, zero, suc, ◌-◌, ◌≤◌, length, take}
use Rattle.lists.specs.Choice.{Exactly}
use Rattle.framing.specs.Reference.{Call, byte, finish}
use Rattle.framing.specs.Located.{Located, unlocated, located, answer_in}
use Rattle.framing.specs.Chunk.{last_answered, FirstSingly, Singly}
use Rattle.answer.specs.Answer.{result}
use Rattle.frame.specs.Frame.{Frame, wire_of}
use Rattle.candidate.specs.Outcome.{Outcome, nothing, judged}
use Rattle.line.specs.Rowing.{most_bytes, full}
use Rattle.line.specs.Reader.{turn_of}
use Rattle.line.specs.declared.LineReader.{LineReader}

-- ---- how far a chunk is taken

-- A chunk is taken to its end where nothing is answered, or as far as the count allows, and at least a byte of it where
-- something is answered, but for 16. That is answered, at position 0 and with no byte taken, exactly where the count is
-- full before the chunk's first byte.
pub record TakenToAnswer (r : LineReader) (given : List ℕ) (taken : ℕ) (a : Located Outcome) : Type 0 where
  pub within : taken ≤ length (take (most_bytes - r.state.count) given)
  pub all : a ≡ unlocated nothing → taken ≡ length (take (most_bytes - r.state.count) given)
  pub some : (a ≡ unlocated nothing → ⊥) → (answer_in a ≡ full → ⊥) → 1 ≤ taken
  pub refuses : Exactly (answer_in a ≡ full) ((most_bytes ≤ r.state.count) × (1 ≤ length given))
  pub untaken : answer_in a ≡ full → (a ≡ located 0 full) × (taken ≡ 0)

-- ---- the single calls that a chunk stands for

-- How many: as many as it took, and where it is answered and took none, one, the byte that is refused.
abbrev pub stands_for : (taken : ℕ) → Located Outcome → ℕ
stands_for zero (unlocated o) = 0
stands_for zero (located position o) = 1
stands_for (suc n) a = suc n

-- Their outcomes: nothing for each but the last, and the chunk's outcome for the last.
abbrev pub by_byte : ℕ → Located Outcome → List (Located Outcome)
by_byte n a = last_answered (unlocated nothing) n a

-- What the bytes that a chunk took, and its answer, are to a caller: an answer where no byte was taken stands by itself,
-- so that none is left out.
abbrev pub told_bytes : (taken : ℕ) → Located Outcome → List (Located Outcome)
told_bytes taken a = by_byte (stands_for taken a) a

-- What the bytes of a frame are answered with where they come first: nothing for each but the last, and the frame at
-- position 0 for the last.
abbrev pub told_alone : Frame → List (Located Outcome)
told_alone f = by_byte (length (wire_of f)) (located 0 (judged (result f)))

-- A call that was given several took the first `taken` of them; its outcomes, and the reader that it left, are theirs
-- singly.
abbrev pub TakesFirst : LineReader → (given : List Call) → (taken : ℕ) → List (Located Outcome) → LineReader → Type 0
TakesFirst r given taken outcomes next = FirstSingly turn_of r given taken outcomes next

-- The outcomes and the last reader of calls made singly: each byte by itself, and each finish.
abbrev pub AsSingly : LineReader → (calls : List Call) → List (Located Outcome) → (last : LineReader) → Type 0
AsSingly r calls outcomes last = Singly turn_of r calls outcomes last

-- ---- a full reader

-- A byte is fed to a reader that has taken as many as it takes.
abbrev pub IsFull : LineReader → Call → Type 0
IsFull r (byte b) = most_bytes ≤ r.state.count
IsFull r finish = ⊥

-- Of one call: 16 exactly where the reader is full, and then at position 0, and the reader is left as it was.
pub record FullExactly (r : LineReader) (c : Call) (a : Located Outcome) (next : LineReader) : Type 0 where
  pub exactly : Exactly (answer_in a ≡ full) (IsFull r c)
  pub kept : IsFull r c → (a ≡ located 0 full) × (next ≡ r)
