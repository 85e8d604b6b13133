-- A line reader that holds the bytes of an open candidate up to a capacity, over a protocol's parameters.
use Rattle.std.specs.Prelude.{◌≡◌, List, [], ◌∷◌, ◌++◌, ℕ, ◌+◌, ◌<◌, ltb, length, take, set}
use Rattle.lists.specs.Choice.{pick}
use Rattle.lists.specs.Machine.{Turn, turn}
use Rattle.framing.specs.declared.Mode.{Mode}
use Rattle.framing.specs.declared.Mode.TheVariants.{Outside, Inside, Overlong}
use Rattle.framing.specs.Reference.{Call, byte, finish, Role, starts, stops, plain, FlagFree, Protocol}

-- Outside of any candidate; in one of a kind; in one with more bytes than there is room for, which are not held.
abbrev pub BoundedMode : (K : Type 0) → Type 0
BoundedMode K = Mode K

-- An array, how many of its first bytes are held, and the mode.
pub record BoundedReader (K : Type 0) : Type 0 where
  pub bytes : List ℕ
  pub len : ℕ
  pub mode : BoundedMode K

abbrev pub bounded : {K : Type 0} → List ℕ → ℕ → BoundedMode K → BoundedReader K
bounded bytes len mode = record { bytes = bytes; len = len; mode = mode }

-- What a bounded reader is built from: how many bytes between the flags it has room for; the kind of candidate that a
-- start flag opens; the answer to a terminated candidate that it holds, by its kind and the bytes between its flags;
-- the array that such an answer leaves; and the answer to a terminated candidate with more bytes than there is room
-- for.
pub record Bounds (K A : Type 0) : Type 0 where
  pub capacity : ℕ
  pub kind : ℕ → K
  pub judge : K → (body : List ℕ) → A
  pub left : A → List ℕ → List ℕ
  pub long : A

module _ {K A : Type 0} (P : Protocol A) (B : Bounds K A) where
  -- The protocol judges a terminated candidate by its kind and its bytes, and where there is no room for them with one
  -- answer, whatever they are. What is judged leaves as many bytes in the array as there were.
  pub record Suits : Type 0 where
    pub held : (flag : ℕ) (body : List ℕ) (b : ℕ) → P.role flag ≡ starts → P.role b ≡ stops
        → P.judge (flag ∷ (body ++ b ∷ [])) ≡ B.judge (B.kind flag) body
    pub too_long : (flag : ℕ) (body : List ℕ) (b : ℕ) → P.role flag ≡ starts → FlagFree P.role body
        → P.role b ≡ stops
        → B.capacity < length body → P.judge (flag ∷ (body ++ b ∷ [])) ≡ B.long
    pub kept : (kind : K) (len : ℕ) (bytes : List ℕ) → length bytes ≡ B.capacity
        → length (B.left (B.judge kind (take len bytes)) bytes) ≡ B.capacity

  -- Whatever is open is truncated.
  abbrev pub truncated_in : BoundedMode K → A
  truncated_in Outside = P.nothing
  truncated_in (Inside kind) = P.truncated
  truncated_in Overlong = P.truncated

  -- The stop flag terminates what is open.
  abbrev pub terminated_in : BoundedMode K → (bytes : List ℕ) → (len : ℕ) → A
  terminated_in Outside bytes len = P.nothing
  terminated_in (Inside kind) bytes len = B.judge kind (take len bytes)
  terminated_in Overlong bytes len = B.long

  -- The array afterwards.
  abbrev pub left_by_stop : BoundedMode K → (bytes : List ℕ) → (len : ℕ) → List ℕ
  left_by_stop Outside bytes len = bytes
  left_by_stop (Inside kind) bytes len = B.left (B.judge kind (take len bytes)) bytes
  left_by_stop Overlong bytes len = bytes

  -- Any other byte: an open candidate has one byte more, or is over-long where there is no room for it.
  abbrev pub grown_in : BoundedMode K → (bytes : List ℕ) → (len b : ℕ) → BoundedReader K
  grown_in Outside bytes len b = bounded bytes len Outside
  grown_in (Inside kind) bytes len b =
      pick (ltb len B.capacity) (bounded (set bytes len b) (len + 1) (Inside kind)) (bounded bytes 0 Overlong)
  grown_in Overlong bytes len b = bounded bytes len Overlong

  -- A byte of a role.
  abbrev pub byte_turn : Role → BoundedReader K → ℕ → Turn (BoundedReader K) A
  byte_turn starts r b = turn (truncated_in r.mode) (bounded r.bytes 0 (Inside (B.kind b)))
  byte_turn stops r b =
      turn (terminated_in r.mode r.bytes r.len) (bounded (left_by_stop r.mode r.bytes r.len) 0 Outside)
  byte_turn plain r b = turn P.nothing (grown_in r.mode r.bytes r.len b)

  -- A call.
  abbrev pub bounded_turn : BoundedReader K → Call → Turn (BoundedReader K) A
  bounded_turn r (byte b) = byte_turn (P.role b) r b
  bounded_turn r finish = turn (truncated_in r.mode) (bounded r.bytes 0 Outside)
