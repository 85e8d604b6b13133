use Rattle.std.proofs.Common.{◌≡◌, ◌-◌, drop}
use Rattle.command.specs.Entries.{parse, nth_in}
use Rattle.command.proofs.entries.nth.Given as goal

abbrev pub invariant-loop : goal.invariant-loop
invariant-loop l =
    nth_in l.limit l.cursor.at (parse l.limit (drop l.cursor.at l.s) 0) (l.n - l.counter)
    ≡ nth_in l.limit l.initial.cursor.at (parse l.limit (drop l.initial.cursor.at l.s) 0) l.n
