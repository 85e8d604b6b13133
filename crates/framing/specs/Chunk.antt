-- Bytes given to a reader in chunks, beside the same bytes fed singly: document 02, No. 4. Over the reader's state and
-- answers, its calls, the answer that is nothing, and a test for what is an answer.
use Rattle.std.specs.Prelude.{◌≡◌, Bool, List, [], ◌∷◌, ℕ, zero, suc, ◌+◌, ◌≤◌, length, take}
use Rattle.lists.specs.Choice.{pick}
use Rattle.lists.specs.Machine.{Turn, run, left_after}
use Rattle.framing.specs.Reference.{Call, byte}
use Rattle.framing.specs.Demand3.{feed}

-- An answer, the state afterwards, and how many bytes were taken.
pub record FedTurn (S A : Type 0) : Type 0 where
  pub answer : A
  pub next : S
  pub taken : ℕ

abbrev pub fed_turn : {S A : Type 0} → A → S → ℕ → FedTurn S A
fed_turn a s n = record { answer = a; next = s; taken = n }

-- What a chunk gives, where i bytes that were not answered come before it.
abbrev pub later_by : {S A : Type 0} → ℕ → FedTurn S A → FedTurn S A
later_by i f = fed_turn f.answer f.next (i + f.taken)

-- The bytes fed singly, up to the first that is answered. With no answer all of them are taken.
unfoldable pub fed_by : {S A : Type 0} → (nothing : A) → (is_answer : A → Bool) → (S → Call → Turn S A) → S → List ℕ
    → FedTurn S A
fed_by nothing is_answer turn_of s [] = fed_turn nothing s 0
fed_by nothing is_answer turn_of s (b ∷ bytes) =
    pick (is_answer (turn_of s (byte b)).answer) (fed_turn (turn_of s (byte b)).answer (turn_of s (byte b)).next 1)
    (later_by 1 (fed_by nothing is_answer turn_of (turn_of s (byte b)).next bytes))

-- ---- a chunk

-- The most bytes of a chunk that a call takes.
abbrev pub chunk_limit : ℕ
chunk_limit = 65536

-- A chunk of more bytes is cut to its first ones.
abbrev pub cut_chunk : List ℕ → List ℕ
cut_chunk s = take chunk_limit s

-- ---- the single calls that a chunk stands for

-- The answers of so many calls: nothing for each but the last, and this for the last. Of no calls there are none,
-- whatever the answer is.
abbrev pub last_answered : {A : Type 0} → (nothing : A) → ℕ → A → List A
last_answered nothing zero a = []
last_answered nothing (suc zero) a = a ∷ []
last_answered nothing (suc (suc n)) a = nothing ∷ last_answered nothing (suc n) a

module _ {S A : Type 0} (turn_of : S → Call → Turn S A) where
  abbrev pub turn_answer : S → Call → A
  turn_answer s c = (turn_of s c).answer

  abbrev pub turn_next : S → Call → S
  turn_next s c = (turn_of s c).next

  -- A call that was given several took the first `taken` of them; its answers, and the state that it left, are theirs
  -- singly.
  abbrev pub FirstSingly : S → (given : List Call) → (taken : ℕ) → List A → S → Type 0
  FirstSingly s given taken answers next =
      (taken ≤ length given) × (answers ≡ run turn_answer turn_next s (take taken given))
      × (next ≡ left_after turn_next s (take taken given))

  -- The answers and the last state of calls made singly: each byte by itself, and each finish.
  pub record Singly (s : S) (calls : List Call) (answers : List A) (last : S) : Type 0 where
    pub answers_are : answers ≡ run turn_answer turn_next s calls
    pub state_is : last ≡ left_after turn_next s calls

  -- The bytes that a turn took, fed singly.
  abbrev pub TakenSingly : (nothing : A) → S → List ℕ → FedTurn S A → Type 0
  TakenSingly nothing s bytes f =
      Singly s (feed (take f.taken bytes)) (last_answered nothing f.taken f.answer) f.next
