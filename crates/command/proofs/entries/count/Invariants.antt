use Rattle.std.proofs.Common.{◌≡◌, ◌-◌, ◌≤◌, length, drop}
use Rattle.command.specs.Answers.{counted}
use Rattle.command.specs.Entries.{parse}
use Rattle.command.proofs.EntryLaws.{counted_plus}
use Rattle.command.proofs.entries.count.Given as goal

abbrev pub invariant-loop-next : goal.invariant-loop-next
invariant-loop-next l =
    (l.n ≤ l.cursor.at) × (counted_plus l.n (counted l.cursor.at (parse l.limit (drop l.cursor.at l.s) 0))
    ≡ counted l.initial.cursor.at (parse l.limit (drop l.initial.cursor.at l.s) 0))

abbrev pub decreases-loop-next : goal.decreases-loop-next
decreases-loop-next l = length l.s - l.cursor.at
