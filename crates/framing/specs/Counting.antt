-- A count beside a reader that has none: it gives each of the reader's answers a position, and takes no byte more where
-- it is full. Over a protocol's parameters.
use Rattle.std.specs.Prelude.{◌≡◌, Bool, true, false, List, [], ◌∷◌, ℕ, ◌+◌, ltb}
use Rattle.lists.specs.Choice.{pick}
use Rattle.lists.specs.Machine.{Turn, turn}
use Rattle.framing.specs.Reference.{Call, byte, finish, Role, starts, stops, plain, Protocol}
use Rattle.framing.specs.Located.{Located, unlocated, located, LocatedProtocol}

-- A reader, the position of the last start flag, and how many bytes were taken since new or the end of an input.
pub record Counter (S : Type 0) : Type 0 where
  pub reader : S
  pub start : ℕ
  pub count : ℕ

abbrev pub counter : {S : Type 0} → S → (start count : ℕ) → Counter S
counter reader start count = record { reader = reader; start = start; count = count }

-- The position of the last start flag, after a byte of a role that comes after `count` others.
abbrev pub start_after : Role → (start count : ℕ) → ℕ
start_after starts start count = count
start_after stops start count = start
start_after plain start count = start

-- The same after several bytes.
abbrev pub start_in : (ℕ → Role) → (start count : ℕ) → List ℕ → ℕ
start_in role start count [] = start
start_in role start count (b ∷ bytes) = start_in role (start_after (role b) start count) (count + 1) bytes

-- What is an answer gets a position, and nothing gets none.
abbrev pub locate : {A : Type 0} → (A → Bool) → (position : ℕ) → A → Located A
locate is_answer position a = pick (is_answer a) (located position a) (unlocated a)

-- A test tells nothing from the answers of a protocol.
pub record TellsApart {A : Type 0} (P : Protocol A) (is_answer : A → Bool) : Type 0 where
  pub nothing : is_answer P.nothing ≡ false
  pub truncated : is_answer P.truncated ≡ true
  pub judged : (s : List ℕ) → is_answer (P.judge s) ≡ true

module _ {S A : Type 0} (Q : LocatedProtocol A) (is_answer : A → Bool) (turn_of : S → Call → Turn S A) where
  -- A byte that is taken.
  abbrev pub taken_turn : Counter S → ℕ → Turn (Counter S) (Located A)
  taken_turn s b =
      turn (locate is_answer s.start (turn_of s.reader (byte b)).answer)
      (counter (turn_of s.reader (byte b)).next (start_after (Q.protocol.role b) s.start s.count)
      (s.count + 1))

  -- A byte at a full count is refused at position 0 and changes nothing. The end of input sets the count back.
  abbrev pub counted_turn : Counter S → Call → Turn (Counter S) (Located A)
  counted_turn s (byte b) = pick (ltb s.count Q.limit) (taken_turn s b) (turn (located 0 Q.full) s)
  counted_turn s finish =
      turn (locate is_answer s.start (turn_of s.reader finish).answer)
      (counter (turn_of s.reader finish).next 0 0)
