use Rattle.command.specs.Entries.{commands}
use Rattle.command.specs.Traversal.{command_at}
use Rattle.command.proofs.Extents.{within_nth}
use Rattle.command.proofs.PartLaws.{is_data}
use Rattle.command.proofs.traversal.data_at.Goals as goal

pub returns : goal.returns
unfolding command_at
returns c = is_data c.found_part.ensures c.command_at.ensures (within_nth commands _ _ 0)
