-- A line reader as the portal keeps it between calls.
use Rattle.std.specs.Prelude.{List, ℕ}
use Rattle.frame.specs.declared.Origin.{Origin}
use Rattle.candidate.specs.Outcome.{zeros}
use Rattle.line.specs.declared.LineReader.{LineReader}
use Rattle.exports.specs.LineState.{reader_in}

-- The array and the two numbers that hold the state.
pub record LentLine : Type 0 where
  pub bytes : List ℕ
  pub state : ℕ
  pub counts : ℕ

abbrev pub lent_line : List ℕ → (state counts : ℕ) → LentLine
lent_line bytes state counts = record { bytes = bytes; state = state; counts = counts }

-- A new one: 118 zeros, and the numbers 0 and 0.
abbrev pub new_line : LentLine
new_line = lent_line zeros 0 0

-- The array and the numbers as a reader of an origin.
abbrev pub reader_of : Origin → LentLine → LineReader
reader_of o l = reader_in o l.bytes l.state l.counts
