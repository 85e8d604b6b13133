-- The conditions on a sound packet, each by itself, and the papers' tables of reading and writing over them: document 02,
-- No. 3, in demand 2's words. None uses the verdict or the steps by which it is computed; the flags, the sum and its two
-- digits are those of packets.
use Rattle.std.specs.Prelude.{ℕ, ◌+◌, ◌-◌, ◌≤◌, ◌<◌, ◌≡◌, ◌⊎◌, List, [], ◌∷◌, ◌++◌, length, get_or, drop}
use Rattle.answer.specs.Answer.{Answer, result, refused}
use Rattle.framing.specs.Reference.{FlagFree}
use Rattle.coscom.specs.Flags.{candidate_of, role_of}
use Rattle.coscom.specs.Packet.{Packet, checksum, two_digits, wire_of}
use Rattle.coscom.specs.Verdict.{Verdict}
use Rattle.coscom.specs.Answers.{PacketOutline, outline_of}

-- One terminated candidate (document 01: one whole closed stretch).
pub record Terminated (w : List ℕ) : Type 0 where
  pub body : List ℕ
  pub shape : w ≡ candidate_of body
  pub inside : FlagFree role_of body

-- At most 256 bytes, 01 and 17 included.
abbrev pub WithinLimit : List ℕ → Type 0
WithinLimit w = length w ≤ 256

-- The header's three bytes and the checksum's two.
abbrev pub LongEnough : List ℕ → Type 0
LongEnough body = 5 ≤ length body

abbrev pub Letter : ℕ → Type 0
Letter b = (0x41 ≤ b) × (b ≤ 0x5A)

abbrev pub Digit : ℕ → Type 0
Digit b = (0x30 ≤ b) × (b ≤ 0x39)

-- A byte that may stand in a data unit.
abbrev pub InUnit : ℕ → Type 0
InUnit b = ((0x20 ≤ b) × (b ≤ 0x7E)) ⊎ (b ≡ 0x1D)

-- Every byte between the flags is allowed at its place: a letter, two digits, a data unit, two digits.
pub record CharactersAllowed (body : List ℕ) : Type 0 where
  pub letter : Letter (get_or body 0 0)
  pub tens : Digit (get_or body 1 0)
  pub ones : Digit (get_or body 2 0)
  pub unit : (i : ℕ) → 3 ≤ i → i + 2 < length body → InUnit (get_or body i 0)
  pub sum_tens : Digit (get_or body (length body - 2) 0)
  pub sum_ones : Digit (get_or body (length body - 1) 0)

-- The last two bytes are the digits of the sum modulo 100 of all bytes before them.
abbrev pub ChecksumRight : List ℕ → Type 0
ChecksumRight body = (summed : List ℕ) × (body ≡ summed ++ two_digits (checksum summed))

-- What demand 2 asks of a slice that is accepted.
pub record Sound (w : List ℕ) : Type 0 where
  pub candidate : Terminated w
  pub limit : WithinLimit w
  pub enough : LongEnough candidate.body
  pub characters : CharactersAllowed candidate.body
  pub sum : ChecksumRight candidate.body

-- The bytes are a packet's header and data unit, and two more.
pub record Spells (body : List ℕ) (p : Packet) : Type 0 where
  pub sum_tens : ℕ
  pub sum_ones : ℕ
  pub spelt : body ≡ p.letter ∷ p.tens ∷ p.ones ∷ (p.unit ++ (sum_tens ∷ sum_ones ∷ []))

-- A slice that demand 2 accepts, and the packet that it is.
pub record SoundPacket (w : List ℕ) (p : Packet) : Type 0 where
  pub slice : Sound w
  pub spells : Spells slice.candidate.body p

-- The papers' table with its order: each answer with the rule that fails, where every rule before it holds.
pub data Judged (w : List ℕ) : Verdict → Type 0 where
  truncated : (Terminated w → ⊥) → Judged w (refused 6)
  long : Terminated w → (WithinLimit w → ⊥) → Judged w (refused 2)
  short : (t : Terminated w) → WithinLimit w → (LongEnough t.body → ⊥) → Judged w (refused 4)
  bad_character : (t : Terminated w) → WithinLimit w → LongEnough t.body → (CharactersAllowed t.body → ⊥)
      → Judged w (refused 22)
  bad_sum : (t : Terminated w) → WithinLimit w → LongEnough t.body → CharactersAllowed t.body
      → (ChecksumRight t.body → ⊥) → Judged w (refused 5)
  sound : (p : Packet) → SoundPacket w p → Judged w (result p)

-- What reading a slice is answered, and the output afterwards. The slice's refusal comes first, and 1 last, where the
-- output has no room. A packet's data unit stands first in the output, and all after it is as it was.
pub data ReadJudged (w out : List ℕ) : Answer PacketOutline → List ℕ → Type 0 where
  refused_by : {n : ℕ} → Judged w (refused n) → ReadJudged w out (refused n) out
  no_room : {p : Packet} → SoundPacket w p → length out < length p.unit → ReadJudged w out (refused 1) out
  fits : {p : Packet} → SoundPacket w p → length p.unit ≤ length out
      → ReadJudged w out (result (outline_of p)) (p.unit ++ drop (length p.unit) out)

-- Every byte of a packet that is to be written is allowed at its place.
pub record Proper (p : Packet) : Type 0 where
  pub letter : Letter p.letter
  pub tens : Digit p.tens
  pub ones : Digit p.ones
  pub unit : (i : ℕ) → i < length p.unit → InUnit (get_or p.unit i 0)

-- What writing a packet is answered, and the output afterwards: 2 where it is over the limit, then 22 where a byte is not
-- allowed at its place, then 1, then its length.
pub data WriteJudged (p : Packet) (out : List ℕ) : Answer ℕ → List ℕ → Type 0 where
  over_limit : (WithinLimit (wire_of p) → ⊥) → WriteJudged p out (refused 2) out
  not_proper : WithinLimit (wire_of p) → (Proper p → ⊥) → WriteJudged p out (refused 22) out
  no_room_to_write : WithinLimit (wire_of p) → Proper p → length out < length (wire_of p) → WriteJudged p out (refused 1) out
  written : WithinLimit (wire_of p) → Proper p → length (wire_of p) ≤ length out
      → WriteJudged p out (result (length (wire_of p))) (wire_of p ++ drop (length (wire_of p)) out)
