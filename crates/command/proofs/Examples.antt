-- Lists that tell readings of document 01 apart, computed.
use mathlib.Core.Path.{◌≡◌, refl}
use mathlib.Core.Bool.{true, false}
use mathlib.Core.List.{[], ◌∷◌}
use Rattle.command.specs.Entries.{commands, items, entry_bytes, with_entry, parse, found, nth_of, nth_in}
use Rattle.command.specs.Answers.{entry_count, fails_at, counted}
use Rattle.answer.specs.Answer.{result, refused}
use Rattle.command.specs.Commands.{nth_command, inside, nth_inside}
use Rattle.command.specs.Traversal.{command_at, index_after, index_of}
use Rattle.command.specs.Stop.{any_of, any_in, is_one_two, terminates, stops_within, stops_workout}

pub examples :
    -- an empty list is sound, and so is an empty wrapper
    (nth_command [] 0 ≡ refused 15)
    × (nth_inside (0x76 ∷ 0x00 ∷ []) 0 0 ≡ refused 15)
    -- a short command and a wrapper
    × (nth_command (0x80 ∷ 0x81 ∷ []) 1 ≡ result (found 0x81 2 0))
    × (nth_inside (0x80 ∷ 0x76 ∷ 0x02 ∷ 0x13 ∷ 0x00 ∷ []) 1 0 ≡ result (found 0x13 5 0))
    -- inside what is no wrapper there is none; only the wrapper that is asked about is looked into
    × (nth_inside (0x80 ∷ 0x76 ∷ 0x01 ∷ 0x13 ∷ []) 0 0 ≡ refused 15)
    × (nth_inside (0x80 ∷ 0x76 ∷ 0x01 ∷ 0x13 ∷ []) 1 0 ≡ refused 7)
    × (nth_inside (0x80 ∷ 0x76 ∷ 0x01 ∷ 0x13 ∷ []) 2 0 ≡ refused 15)
    × (nth_command (0x76 ∷ 0x01 ∷ 0x13 ∷ []) 0 ≡ result (found 0x76 2 1))
    -- every count of the list is checked, not only those up to the n-th
    × (nth_command (0x80 ∷ 0x20 ∷ 0x05 ∷ []) 0 ≡ refused 7)
    -- inside a wrapper no byte is a wrapper
    × (nth_inside (0x76 ∷ 0x04 ∷ 0x1A ∷ 0x02 ∷ 0x05 ∷ 0x09 ∷ []) 0 0 ≡ result (found 0x1A 4 2))
    -- a count that leaves its list
    × (nth_command (0x76 ∷ 0x02 ∷ 0x13 ∷ 0x02 ∷ 0x01 ∷ 0x02 ∷ []) 0 ≡ refused 7)
    × (nth_inside (0x76 ∷ 0x02 ∷ 0x13 ∷ 0x02 ∷ 0x80 ∷ 0x80 ∷ []) 0 0 ≡ refused 7)
unfolding entry_bytes with_entry parse nth_of nth_in nth_command inside nth_inside
examples = (refl, refl, refl, refl, refl, refl, refl, refl, refl, refl, refl, refl)

-- the number of commands, and the place of the one that fails
pub count_examples :
    -- a short command and a wrapper, whose data is not looked into
    (counted 0 (parse commands (0x80 ∷ 0x76 ∷ 0x01 ∷ 0x13 ∷ []) 0) ≡ entry_count 2)
    -- a count that is missing, and one that goes beyond the end
    × (counted 0 (parse commands (0x80 ∷ 0x20 ∷ 0x01 ∷ 0x05 ∷ 0x34 ∷ []) 0) ≡ fails_at 7 4)
    × (counted 0 (parse commands (0x80 ∷ 0x20 ∷ 0x05 ∷ []) 0) ≡ fails_at 7 1)
    -- the items of a reply, which begin at index 1
    × (counted 1 (parse items (0x80 ∷ 0x00 ∷ 0x81 ∷ []) 0) ≡ fails_at 7 3)
unfolding entry_bytes with_entry parse counted
count_examples = (refl, refl, refl, refl)

-- what a command cursor answers
pub cursor_examples :
    -- a short command, a wrapper, and then the end, where it stays
    (command_at (0x80 ∷ 0x76 ∷ 0x02 ∷ 0x13 ∷ 0x00 ∷ []) 0 ≡ result (found 0x80 1 0))
    × (index_after (0x80 ∷ 0x76 ∷ 0x02 ∷ 0x13 ∷ 0x00 ∷ []) 0 ≡ 1)
    × (command_at (0x80 ∷ 0x76 ∷ 0x02 ∷ 0x13 ∷ 0x00 ∷ []) 1 ≡ result (found 0x76 3 2))
    × (index_of (0x80 ∷ 0x76 ∷ 0x02 ∷ 0x13 ∷ 0x00 ∷ []) 2 0 ≡ 5)
    × (command_at (0x80 ∷ 0x76 ∷ 0x02 ∷ 0x13 ∷ 0x00 ∷ []) 5 ≡ refused 15)
    × (index_of (0x80 ∷ 0x76 ∷ 0x02 ∷ 0x13 ∷ 0x00 ∷ []) 4 0 ≡ 5)
    -- on the wrapper's data
    × (command_at (0x13 ∷ 0x00 ∷ []) 0 ≡ result (found 0x13 2 0))
    -- on an unsound list it answers 7 from the first step on, and stays
    × (command_at (0x80 ∷ 0x20 ∷ 0x05 ∷ []) 0 ≡ refused 7)
    × (index_of (0x80 ∷ 0x20 ∷ 0x05 ∷ []) 3 0 ≡ 0)
    -- an index past the end
    × (command_at (0x80 ∷ []) 9 ≡ refused 15)
    × (index_after (0x80 ∷ []) 9 ≡ 9)
unfolding entry_bytes with_entry parse nth_of nth_in command_at index_after index_of
cursor_examples = (refl, refl, refl, refl, refl, refl, refl, refl, refl, refl, refl)

-- what stops a workout
pub stop_examples :
    -- the list is unsound after the wrapper
    (stops_workout (0x76 ∷ 0x04 ∷ 0x13 ∷ 0x02 ∷ 0x01 ∷ 0x02 ∷ 0x20 ∷ []) ≡ false)
    -- another wrapper is unsound
    × (stops_workout (0x76 ∷ 0x04 ∷ 0x13 ∷ 0x02 ∷ 0x01 ∷ 0x02 ∷ 0x1A ∷ 0x01 ∷ 0x05 ∷ []) ≡ true)
    -- the first 76 is unsound and the second is not
    × (stops_workout (0x76 ∷ 0x01 ∷ 0x13 ∷ 0x76 ∷ 0x04 ∷ 0x13 ∷ 0x02 ∷ 0x01 ∷ 0x02 ∷ []) ≡ true)
    -- the 76 is unsound after its command
    × (stops_workout (0x76 ∷ 0x05 ∷ 0x13 ∷ 0x02 ∷ 0x01 ∷ 0x02 ∷ 0x01 ∷ []) ≡ false)
    -- command 13 stands in 1A, at the top, and with data 01 02 00
    × (stops_workout (0x1A ∷ 0x04 ∷ 0x13 ∷ 0x02 ∷ 0x01 ∷ 0x02 ∷ []) ≡ false)
    × (stops_workout (0x13 ∷ 0x02 ∷ 0x01 ∷ 0x02 ∷ []) ≡ false)
    × (stops_workout (0x76 ∷ 0x05 ∷ 0x13 ∷ 0x03 ∷ 0x01 ∷ 0x02 ∷ 0x00 ∷ []) ≡ false)
unfolding parse with_entry any_of any_in is_one_two terminates stops_within stops_workout
stop_examples = (refl, refl, refl, refl, refl, refl, refl)
