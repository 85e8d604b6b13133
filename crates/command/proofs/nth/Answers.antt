use Rattle.command.specs.Commands.{nth_command}
use Rattle.command.proofs.nth.Goals as goal

pub returns : goal.returns
unfolding nth_command
returns c = c.nth.ensures
