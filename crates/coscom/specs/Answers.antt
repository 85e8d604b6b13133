-- What each case of an answer means, in the papers' numbers, and what each public function answers and leaves in the
-- slice that it is lent.
use Rattle.std.specs.Prelude.{ℕ, ◌≡◌, List, ◌++◌, leb, length, take, drop, Result, Ok, Err}
use Rattle.lists.specs.Choice.{pick}
use Rattle.answer.specs.Answer.{Answer, result, refused, through}
use Rattle.answer.specs.Draft.{Draft, draft_out}
use Rattle.answer.specs.Refusals.{number_of}
use Rattle.answer.specs.declared.Refusal.{Refusal}
use Rattle.coscom.specs.Packet.{Packet, packet, is_proper, wire_of}
use Rattle.coscom.specs.Verdict.{Verdict, verdict}
use Rattle.coscom.specs.declared.Outline.{Outline}

-- ---- writing

-- The bytes of a packet; 2 where they are over 256, then 22 where one is not allowed at its place.
unfoldable pub packet_draft : Packet → Draft
packet_draft p = pick (leb (length (wire_of p)) 256) (pick (is_proper p) (result (wire_of p)) (refused 22)) (refused 2)

-- ---- reading

-- What is told of a packet: its header and the number of bytes of its data unit.
pub record PacketOutline : Type 0 where
  pub letter : ℕ
  pub tens : ℕ
  pub ones : ℕ
  pub len : ℕ

abbrev pub outline : (letter tens ones len : ℕ) → PacketOutline
outline letter tens ones len = record { letter = letter; tens = tens; ones = ones; len = len }

abbrev pub read_means : Result Outline Refusal → Answer PacketOutline
read_means (Ok o) = result (outline o.header.letter o.header.tens o.header.ones o.len)
read_means (Err why) = refused (number_of why)

abbrev pub outline_of : Packet → PacketOutline
outline_of p = outline p.letter p.tens p.ones (length p.unit)

-- The answer of a judge, which has no output.
unfoldable pub judge_answer : Verdict → Answer PacketOutline
judge_answer v = through outline_of v

-- The answer to reading into so much room: the verdict's refusal, then 1, then the packet.
unfoldable pub read_answer : Verdict → ℕ → Answer PacketOutline
read_answer (refused n) room = refused n
read_answer (result p) room = pick (leb (length p.unit) room) (result (outline_of p)) (refused 1)

abbrev pub unit_of : Packet → List ℕ
unit_of p = p.unit

-- The output afterwards: the data unit is written as every writer writes.
unfoldable pub read_out : Verdict → List ℕ → List ℕ
read_out v out = draft_out (through unit_of v) out

-- A call that reads a slice gives this answer and leaves this output, given the output before.
abbrev pub Reads : (w out : List ℕ) → Answer PacketOutline → (last : List ℕ) → Type 0
Reads w out a last = (a ≡ read_answer (verdict w) (length out)) × (last ≡ read_out (verdict w) out)

-- ---- judging in place

-- The lent bytes afterwards: the data unit of an accepted packet stands first, and all after it is as it was.
unfoldable pub left_in : Verdict → List ℕ → List ℕ
left_in (refused n) s = s
left_in (result p) s = p.unit ++ drop (length p.unit) s

-- ---- what was read, as a whole

-- The packet that an answer and the output tell: its data unit is the first bytes of the output.
unfoldable pub packet_read : Answer PacketOutline → List ℕ → Verdict
packet_read (result o) out = result (packet o.letter o.tens o.ones (take o.len out))
packet_read (refused n) out = refused n
