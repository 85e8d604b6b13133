-- The entry at an index: what one step of a cursor answers.
use Rattle.std.specs.Prelude.{ℕ, ◌+◌, ◌-◌, List, leb, ltb, length, get_or, Option, Some, None, Result, Ok, Err}
use Rattle.lists.specs.Choice.{pick}
use Rattle.answer.specs.Answer.{Answer, result, refused}
use Rattle.answer.specs.Refusals.{number_of}
use Rattle.answer.specs.declared.Refusal.{Refusal}
use Rattle.answer.specs.declared.Refusal.TheVariants.{BadCount, Absent}
use Rattle.command.specs.declared.entries.Cursor.{Cursor}
use Rattle.command.specs.declared.entries.Entry.{Entry}
use Rattle.command.specs.declared.entries.Unsound.{Unsound}

-- An entry's byte, the index at which its data starts, how long that is, and the index after it.
pub data EntryStep : Type 0 where
  entry_step : (byte start len next : ℕ) → EntryStep

abbrev pub step_means : Result (Option (Entry × Cursor)) Unsound → Answer EntryStep
step_means (Ok None) = refused (number_of Absent)
step_means (Ok (Some p)) = result (entry_step p.0.byte p.0.start p.0.len p.1.at)
step_means (Err u) = refused (number_of BadCount)

-- The same, where there being no entry is a refusal too.
abbrev pub entry_means : Result (Entry × Cursor) Refusal → Answer EntryStep
entry_means (Ok p) = result (entry_step p.0.byte p.0.start p.0.len p.1.at)
entry_means (Err why) = refused (number_of why)

-- The entry at an index of the bytes: 15 at the end and past it, 7 where its count is missing or goes beyond the end.
-- That steps are the entries of `parse` is a law, `entry_step_lem`.
unfoldable pub step_at : (limit : ℕ) → List ℕ → (at : ℕ) → Answer EntryStep
step_at limit s at =
    pick (ltb at (length s))
    (pick (ltb (get_or s at 0) limit)
    (pick (ltb (at + 1) (length s))
    (pick (leb (get_or s (at + 1) 0) (length s - (at + 2)))
    (result (entry_step (get_or s at 0) (at + 2) (get_or s (at + 1) 0) (at + 2 + get_or s (at + 1) 0)))
    (refused 7))
    (refused 7))
    (result (entry_step (get_or s at 0) (at + 1) 0 (at + 1))))
    (refused 15)
