use Rattle.command.proofs.Extents.{within_command}
use Rattle.command.proofs.PartLaws.{is_data}
use Rattle.command.proofs.nth_data.Goals as goal

pub returns : goal.returns
returns c = is_data c.found_part.ensures c.nth.ensures (within_command _ _)
