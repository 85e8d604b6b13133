-- The room that a line needs.
use Rattle.std.specs.Prelude.{ℕ}

-- The room in which the line of every answer fits. That of an extended frame can need all of it.
abbrev pub line_room : ℕ
line_room = 77

-- The room in which the totals fit. They need all of it where each count has 20 digits.
abbrev pub totals_room : ℕ
totals_room = 84
