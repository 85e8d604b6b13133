use Rattle.std.proofs.Common.{◌≡◌, ◌-◌}
use Rattle.command.specs.Commands.{nth_command}
use Rattle.command.proofs.CursorMoves.{nth_from}
use Rattle.command.proofs.cursor.nth_by_steps.Given as goal

abbrev pub invariant-loop : goal.invariant-loop
invariant-loop l = nth_from l.contents l.at (l.n - l.counter) ≡ nth_command l.contents l.n
