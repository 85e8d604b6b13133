-- Command lists and wrappers (document 01, "Commands and replies").
use Rattle.std.specs.Prelude.{ℕ, ◌+◌, Bool, true, false, List, eqb, take, drop}
use Rattle.lists.specs.Choice.{pick}
use Rattle.command.specs.Entries.{commands, parse, found, nth_in, Extent}
use Rattle.answer.specs.Answer.{Answer, refused, through, and_then}

-- The long commands whose data is a list of commands again.
abbrev pub is_wrapper : ℕ → Bool
is_wrapper b =
    pick (eqb b 0x1A) true
    (pick (eqb b 0x76) true
    (pick (eqb b 0x77) true
    (pick (eqb b 0x7E) true
    (pick (eqb b 0x7F) true false))))

-- The n-th command of a list.
unfoldable pub nth_command : List ℕ → ℕ → Answer Extent
nth_command s n = nth_in commands 0 (parse commands s 0) n

-- What is found further on by a number of bytes.
abbrev pub moved_by : ℕ → Extent → Extent
moved_by by (found b start len) = found b (by + start) len

-- An answer about a part, as one about the whole that has the part from an index on.
abbrev pub shifted : ℕ → Answer Extent → Answer Extent
shifted by a = through (moved_by by) a

-- The n-th command inside a command that is found. Inside what is no wrapper there is none.
abbrev pub inside_found : List ℕ → ℕ → Extent → Answer Extent
inside_found s n (found b start len) =
    pick (is_wrapper b) (shifted start (nth_command (take len (drop start s)) n)) (refused 15)

unfoldable pub inside : List ℕ → Answer Extent → ℕ → Answer Extent
inside s a n = and_then (inside_found s n) a

-- The n-th command inside the w-th at the top. Inside a wrapper no byte is a wrapper: only its commands' own bytes and
-- counts matter.
unfoldable pub nth_inside : List ℕ → (w n : ℕ) → Answer Extent
nth_inside s w n = inside s (nth_command s w) n
