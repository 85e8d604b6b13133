use Rattle.std.proofs.Common.{◌≡◌, ◌-◌, Bool, length, drop}
use Rattle.command.specs.Entries.{Entry, commands, parse}
use Rattle.command.specs.Stop.{any_in, AnswersAs}
use Rattle.command.proofs.StopLaws.{found_so_far}
use Rattle.command.proofs.stop.any.Given as goal

abbrev pub invariant-loop-entry : goal.invariant-loop-entry
invariant-loop-entry g l =
    (p : Entry → Bool) → AnswersAs (goal.F-post g l.test) p
    → found_so_far p l.is_found (parse commands (drop l.cursor.at l.list) 0) ≡ any_in p (parse commands l.list 0)

abbrev pub decreases-loop-entry : goal.decreases-loop-entry
decreases-loop-entry g l = length l.list - l.cursor.at
