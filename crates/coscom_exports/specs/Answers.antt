-- The fields of what each function answers that reads a packet. The letter of the header stands where a frame's kind does,
-- and its two digits where a frame's addresses do.
use Rattle.std.specs.Prelude.{◌^◌, ◌<◌}
use Rattle.answer.specs.Answer.{Answer, result, refused}
use Rattle.coscom.specs.Answers.{PacketOutline}
use Rattle.coscom_line.specs.Outcome.{Summary, silent, tells}
use Rattle.exports.specs.Packed.{Fields}
use Rattle.exports.specs.Answers.{refusal_fields, result_fields}

-- Of a packet that was read, its header and the number of bytes of its data unit.
abbrev pub packet_fields : Answer PacketOutline → Fields
packet_fields (result o) = result_fields o.letter o.tens o.ones o.len
packet_fields (refused n) = refusal_fields n

-- Where a line reader tells nothing, all is 0. No packet has the letter 0, and no refusal the number 0.
abbrev pub line_fields : Summary → Fields
line_fields silent = result_fields 0 0 0 0
line_fields (tells a) = packet_fields a

-- A length that has room in 32 bits.
abbrev pub UnitShort : Answer PacketOutline → Type 0
UnitShort (result o) = o.len < 2 ^ 32
UnitShort (refused n) = Unit {0}

abbrev pub ToldShort : Summary → Type 0
ToldShort silent = Unit {0}
ToldShort (tells a) = UnitShort a
