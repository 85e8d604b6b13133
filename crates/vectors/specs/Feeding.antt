-- How many calls may still give a reader what a call did not take of a chunk.
use Rattle.std.specs.Prelude.{ℕ, ◌+◌, List, length, Option, Some, None}
use Rattle.std.specs.Borrow.{Bor}

-- At most how many calls are left on what is left of a chunk: one takes a byte, or is the last.
abbrev pub calls_left : Option (Bor (List ℕ)) → ℕ
calls_left None = 0
calls_left (Some rest) = length rest.now + 1
