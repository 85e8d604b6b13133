-- The two numbers that hold the state of a line reader, but for its origin, which each exported function that feeds has
-- by its name.
use Rattle.std.specs.Prelude.{ℕ, ◌+◌, ◌*◌, ◌/◌, ◌%◌, ◌^◌, List, eqb}
use Rattle.lists.specs.Choice.{pick}
use Rattle.frame.specs.declared.Origin.{Origin}
use Rattle.frame.specs.declared.Kind.{Kind}
use Rattle.frame.specs.declared.Kind.TheVariants.{Standard, Extended}
use Rattle.framing.specs.declared.Mode.{Mode}
use Rattle.framing.specs.declared.Mode.TheVariants.{Outside, Inside, Overlong}
use Rattle.line.specs.Reader.{lent_reader, held_of}
use Rattle.line.specs.declared.LineReader.{LineReader}
use Rattle.line.specs.declared.State.{State}

abbrev pub digit_of : Mode Kind → ℕ
digit_of Outside = 0
digit_of (Inside Standard) = 1
digit_of (Inside Extended) = 2
digit_of Overlong = 3

abbrev pub mode_of : ℕ → Mode Kind
mode_of n = pick (eqb n 0) Outside (pick (eqb n 1) (Inside Standard) (pick (eqb n 2) (Inside Extended) Overlong))

-- ---- the first number

-- The mode's digit in the lowest two bits, the length above them. A new reader's number is 0.
abbrev pub packed_state : State → ℕ
packed_state s = digit_of s.held.mode + 4 * s.held.len

-- ---- the second number

-- Bits 0 to 31 the position of the last start flag, bits 32 to 63 how many bytes were taken. A new reader's number is 0.
abbrev pub packed_counts : State → ℕ
packed_counts s = s.start + 2 ^ 32 * s.count

abbrev pub start_of : ℕ → ℕ
start_of counts = counts % 2 ^ 32

abbrev pub count_of : ℕ → ℕ
count_of counts = counts / 2 ^ 32

-- ---- the two taken apart

-- Two numbers as a state of an origin. Every two are one.
abbrev pub state_in : Origin → (n counts : ℕ) → State
state_in o n counts =
    record { held = held_of o (n / 4) (mode_of (n % 4)); start = start_of counts; count = count_of counts }

-- An array and two numbers as a reader of an origin.
abbrev pub reader_in : Origin → List ℕ → (n counts : ℕ) → LineReader
reader_in o bytes n counts = lent_reader bytes (state_in o n counts)
