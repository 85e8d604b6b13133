-- The candidate that a slice begins with.
use Rattle.std.specs.Prelude.{ℕ, ◌+◌, Bool, List, eqb, get_or, drop}
use Rattle.lists.specs.Choice.{pick, count_before}
use Rattle.frame.specs.Flags.{stop_flag, is_start, is_flag}

-- Whether the stop flag stands at an index.
abbrev pub is_stop_at : List ℕ → ℕ → Bool
is_stop_at s n = eqb (get_or s n 0) stop_flag

-- How many bytes a candidate has, its flags included, whose start flag stands right before a slice: the next flag is the
-- stop flag. 0 where it does not end so.
abbrev pub open_count : List ℕ → ℕ
open_count rest = pick (is_stop_at rest (count_before is_flag rest)) (count_before is_flag rest + 2) 0

-- How many bytes the candidate has that a slice begins with: a start flag first. 0 where it begins with none.
unfoldable pub leading_count : List ℕ → ℕ
leading_count s = pick (is_start (get_or s 0 0)) (open_count (drop 1 s)) 0
