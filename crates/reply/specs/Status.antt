-- The status byte (document 01, "Commands and replies").
use Rattle.std.specs.Prelude.{ℕ, ◌+◌, ◌*◌, ◌/◌, ◌%◌, ◌≡◌, ◌<◌, Bool, false, List, [], ◌∷◌, leb, ltb, eqb}
use Rattle.std.specs.Prelude.{Result, Ok, Err, MatchResult}
use Rattle.lists.specs.Choice.{pick}
use Rattle.answer.specs.Answer.{Answer, result, refused}
use Rattle.answer.specs.Refusals.{number_of}
use Rattle.answer.specs.declared.Refusal.{Refusal}
use Rattle.answer.specs.declared.Refusal.TheVariants.{BadStatus}
pub use Rattle.reply.specs.declared.status.State.{State}
pub use Rattle.reply.specs.declared.status.Previous.{Previous}
use Rattle.reply.specs.declared.status.Status.{Status}
pub use Rattle.reply.specs.declared.status.State.TheVariants.{Error as error, Ready as ready, Idle as idle}
pub use Rattle.reply.specs.declared.status.State.TheVariants.{HaveId as have_id, InUse as in_use, Pause as pause}
pub use Rattle.reply.specs.declared.status.State.TheVariants.{Finish as finish, Manual as manual, Offline as offline}
pub use Rattle.reply.specs.declared.status.Previous.TheVariants.{Ok as ok, Reject as reject, Bad as bad}
pub use Rattle.reply.specs.declared.status.Previous.TheVariants.{NotReady as not_ready}

-- ---- document 01's names and their numbers

-- A machine's state.
abbrev pub state_number : State → ℕ
state_number error = 0
state_number ready = 1
state_number idle = 2
state_number have_id = 3
state_number in_use = 5
state_number pause = 6
state_number finish = 7
state_number manual = 8
state_number offline = 9

-- What a machine made of the previous frame.
abbrev pub previous_number : Previous → ℕ
previous_number ok = 0
previous_number reject = 1
previous_number bad = 2
previous_number not_ready = 3

-- The numbers of all states and of all results, in the order of their names above.
abbrev pub state_numbers : List ℕ
state_numbers =
    state_number error ∷ state_number ready ∷ state_number idle ∷ state_number have_id ∷ state_number in_use
    ∷ state_number pause ∷ state_number finish ∷ state_number manual ∷ state_number offline ∷ []

abbrev pub previous_numbers : List ℕ
previous_numbers = previous_number ok ∷ previous_number reject ∷ previous_number bad ∷ previous_number not_ready ∷ []

-- ---- a status

-- What a status byte holds.
pub data StatusParts : Type 0 where
  status : (toggle : Bool) (previous state : ℕ) → StatusParts

abbrev pub parts_of : Status → StatusParts
parts_of s = status s.toggle (previous_number s.previous) (state_number s.state)

abbrev pub status_means : Result Status Refusal → Answer StatusParts
status_means (Ok s) = result (parts_of s)
status_means (Err why) = refused (number_of why)

-- Whether a number is a state's: 0 to 3, or 5 to 9.
unfoldable pub is_state : ℕ → Bool
is_state n = pick (eqb n 4) false (leb n 9)

-- What a number is answered that is to name a state, and one that is to name a result of the previous frame.
abbrev pub NamesState : ℕ → Result State Refusal → Type 0
NamesState n r = MatchResult r (λ s. state_number s ≡ n) (λ why. (why ≡ BadStatus) × (is_state n ≡ false))

abbrev pub NamesPrevious : ℕ → Result Previous Refusal → Type 0
NamesPrevious n r = MatchResult r (λ p. previous_number p ≡ n) (λ why. (why ≡ BadStatus) × (3 < n))

-- A status of three parts: 8 where the result of the previous frame or the state has no name.
unfoldable pub status_of : (toggle : Bool) (previous state : ℕ) → Answer StatusParts
status_of toggle previous state =
    pick (leb previous 3) (pick (is_state state) (result (status toggle previous state)) (refused 8)) (refused 8)

-- Bit 7 is the toggle, bits 5 and 4 the previous frame, bits 3 to 0 the state. Bit 6 set is 8, and so is a number that
-- is no byte.
unfoldable pub status_in : ℕ → Answer StatusParts
status_in b =
    pick (ltb b 256) (pick (eqb (b / 64 % 2) 0) (status_of (leb 128 b) (b / 16 % 4) (b % 16)) (refused 8)) (refused 8)

-- The byte of a status.
unfoldable pub status_byte : (toggle : Bool) (previous state : ℕ) → ℕ
status_byte toggle previous state = pick toggle 128 0 + (previous % 4 * 16 + state % 16)

-- ---- a status by its names

pub record NamedStatus : Type 0 where
  pub toggle : Bool
  pub previous : Previous
  pub state : State

abbrev pub parts_named : NamedStatus → StatusParts
parts_named s = status s.toggle (previous_number s.previous) (state_number s.state)

-- The byte of a status: the toggle is bit 7, the previous frame bits 5 and 4, the state bits 3 to 0. Bit 6 is clear.
abbrev pub byte_named : NamedStatus → ℕ
byte_named s = pick s.toggle 128 0 + (16 * previous_number s.previous + state_number s.state)

-- Three parts whose numbers have names.
pub record StatusNamed (t : StatusParts) : Type 0 where
  pub named : NamedStatus
  pub parts : t ≡ parts_named named

-- A number that is the byte of a status with these parts.
pub record StatusByte (b : ℕ) (t : StatusParts) : Type 0 where
  pub named : NamedStatus
  pub byte : b ≡ byte_named named
  pub parts : t ≡ parts_named named

-- A number that is the byte of no status.
abbrev pub NoStatus : ℕ → Type 0
NoStatus b = (t : StatusParts) → StatusByte b t → ⊥

-- A fault as document 01 has it, by the bits of a byte: bit 6 is set, or bits 3 to 0 are no state's number.
pub data Fault (b : ℕ) : Type 0 where
  bit_six : b / 64 % 2 ≡ 1 → Fault b
  no_state : ((s : State) → b % 16 ≡ state_number s → ⊥) → Fault b

-- What reading a status byte is answered.
pub data StatusJudged (b : ℕ) : Answer StatusParts → Type 0 where
  is_status : (t : StatusParts) → StatusByte b t → StatusJudged b (result t)
  is_fault : NoStatus b → StatusJudged b (refused 8)

-- What making a status of three parts is answered.
pub data PartsJudged (t : StatusParts) : Answer StatusParts → Type 0 where
  have_names : StatusNamed t → PartsJudged t (result t)
  nameless : (StatusNamed t → ⊥) → PartsJudged t (refused 8)
