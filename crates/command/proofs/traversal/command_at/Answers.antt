use Rattle.command.specs.Traversal.{command_at}
use Rattle.command.proofs.traversal.command_at.Goals as goal

pub returns : goal.returns
unfolding command_at
returns c = c.nth.ensures
