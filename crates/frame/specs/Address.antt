-- Addresses: document 01, "Frames on the wire".
use Rattle.std.specs.Prelude.{ℕ, Bool}
use Rattle.lists.specs.Choice.{within}

-- Whether a number is the address of a machine or a console: 01 to FC.
abbrev pub in_range : ℕ → Bool
in_range a = within 0x01 0xFC a
