-- An index in a command list and the moves from it: what a command cursor answers (document 01: "walker").
use Rattle.std.specs.Prelude.{ℕ, zero, suc, ◌+◌, List, drop}
use Rattle.command.specs.Entries.{commands, parse, found, nth_in, Extent}
use Rattle.answer.specs.Answer.{Answer, result, refused}

-- The command at an index: the first of the bytes from there on, all of whose counts are checked first. At the end and
-- past it there is none.
unfoldable pub command_at : List ℕ → (at : ℕ) → Answer Extent
command_at s at = nth_in commands at (parse commands (drop at s) 0) 0

-- Where an answer at an index leads: past the command's data; nowhere after a refusal.
abbrev pub index_past : ℕ → Answer Extent → ℕ
index_past at (result (found b start len)) = start + len
index_past at (refused k) = at

unfoldable pub index_after : List ℕ → (at : ℕ) → ℕ
index_after s at = index_past at (command_at s at)

-- The index that k moves lead to.
unfoldable pub index_of : List ℕ → (k at : ℕ) → ℕ
index_of s zero at = at
index_of s (suc k) at = index_of s k (index_after s at)
