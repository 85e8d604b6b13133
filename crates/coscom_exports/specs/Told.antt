-- What a caller has in the number that an exported function answers, by what the number is taken apart to.
use Rattle.std.specs.Prelude.{ℕ, ◌≡◌, List, eqb}
use Rattle.lists.specs.Choice.{pick}
use Rattle.answer.specs.Answer.{Answer, result, refused}
use Rattle.coscom.specs.Answers.{PacketOutline, outline}
use Rattle.coscom_line.specs.Outcome.{Outcome, Summary, silent, tells, outcome_of}
use Rattle.exports.specs.Packed.{Fields, unpacked}
use Rattle.exports.specs.Told.{told_as}

abbrev pub outline_in : Fields → PacketOutline
outline_in f = outline f.kind f.to f.from f.len

-- What is told of the packet that was read, or a refusal.
unfoldable pub told_packet : ℕ → Answer PacketOutline
told_packet n = told_as (unpacked n).number (outline_in (unpacked n))

-- What a line reader tells: nothing where the number is 0, else as reading tells it.
unfoldable pub told_line : ℕ → Summary
told_line n = pick (eqb n 0) silent (tells (told_packet n))

-- The whole outcome, by the number and the array that is left, whose first bytes are a packet's data unit.
abbrev pub told_outcome : (n : ℕ) → List ℕ → Outcome
told_outcome n bytes = outcome_of (told_line n) bytes

-- A packet's letter is not 0, and neither is a refusal's number.
abbrev pub Lettered : Answer PacketOutline → Type 0
Lettered (result o) = o.letter ≡ 0 → ⊥
Lettered (refused n) = n ≡ 0 → ⊥

abbrev pub LetteredLine : Summary → Type 0
LetteredLine silent = Unit {0}
LetteredLine (tells a) = Lettered a
