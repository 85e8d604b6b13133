-- A line reader for packets as the portal keeps it between calls: its array, and the number that holds its state.
use Rattle.std.specs.Prelude.{ℕ, ◌+◌, ◌*◌, ◌/◌, ◌%◌, List, eqb}
use Rattle.lists.specs.Choice.{pick}
use Rattle.coscom_line.specs.Outcome.{zeros}
use Rattle.coscom_line.specs.Reader.{lent_reader}
use Rattle.framing.specs.declared.Mode.{Mode}
use Rattle.framing.specs.declared.Mode.TheVariants.{Outside, Inside, Overlong}
use Rattle.framing.specs.declared.Held.{Held}
use Rattle.coscom_line.specs.declared.LineReader.{LineReader}

abbrev pub digit_of : Mode (Unit {0}) → ℕ
digit_of Outside = 0
digit_of (Inside tt) = 1
digit_of Overlong = 2

-- 3 is over-long too, so that every number is a state.
abbrev pub mode_of : ℕ → Mode (Unit {0})
mode_of n = pick (eqb n 0) Outside (pick (eqb n 1) (Inside tt) Overlong)

-- The mode's digit in the lowest two bits, the length above them. A new reader's number is 0.
abbrev pub packed_state : Held (Unit {0}) → ℕ
packed_state s = digit_of s.mode + 4 * s.len

abbrev pub state_in : ℕ → Held (Unit {0})
state_in n = record { len = n / 4; mode = mode_of (n % 4) }

-- The array and the number.
pub record LentLine : Type 0 where
  pub bytes : List ℕ
  pub state : ℕ

abbrev pub lent_line : List ℕ → (state : ℕ) → LentLine
lent_line bytes state = record { bytes = bytes; state = state }

-- A new one: 254 zeros, and the number 0.
abbrev pub new_line : LentLine
new_line = lent_line zeros 0

-- An array and a number as a reader.
abbrev pub reader_in : List ℕ → (state : ℕ) → LineReader
reader_in bytes n = lent_reader bytes (state_in n)

abbrev pub reader_of : LentLine → LineReader
reader_of l = reader_in l.bytes l.state
