-- The fields of what each library function answers.
use Rattle.std.specs.Prelude.{ℕ, ◌^◌, ◌<◌, List}
use Rattle.answer.specs.Answer.{result, refused, Answer}
use Rattle.frame.specs.Answers.{standard_outline, extended_outline, FrameOutline}
use Rattle.lease.specs.Answers.{written_length}
use Rattle.exports.specs.Packed.{Fields}

-- All zero but the number.
abbrev pub refusal_fields : ℕ → Fields
refusal_fields n = record { number = n; kind = 0; to = 0; from = 0; len = 0 }

abbrev pub result_fields : (kind to from len : ℕ) → Fields
result_fields kind to from len = record { number = 0; kind = kind; to = to; from = from; len = len }

-- Of what was written or measured, the length.
abbrev pub write_fields : Answer ℕ → Fields
write_fields (result n) = result_fields 0 0 0 n
write_fields (refused n) = refusal_fields n

-- Of a frame that was read, its kind, its addresses and the number of contents bytes.
abbrev pub read_fields : Answer FrameOutline → Fields
read_fields (result (standard_outline n)) = result_fields 0 0 0 n
read_fields (result (extended_outline to from n)) = result_fields 1 to from n
read_fields (refused n) = refusal_fields n

-- Of hold and release, which write nothing.
abbrev pub lease_fields : Answer (List ℕ) → Fields
lease_fields a = write_fields (written_length a)

-- Lengths that have room in 32 bits.
abbrev pub WriteShort : Answer ℕ → Type 0
WriteShort (result n) = n < 2 ^ 32
WriteShort (refused n) = Unit {0}

abbrev pub ReadShort : Answer FrameOutline → Type 0
ReadShort (result (standard_outline n)) = n < 2 ^ 32
ReadShort (result (extended_outline to from n)) = n < 2 ^ 32
ReadShort (refused n) = Unit {0}
