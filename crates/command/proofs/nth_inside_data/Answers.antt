use Rattle.command.proofs.Extents.{within_nth_inside}
use Rattle.command.proofs.PartLaws.{is_data}
use Rattle.command.proofs.nth_inside_data.Goals as goal

pub returns : goal.returns
returns c = is_data c.found_part.ensures c.nth_inside.ensures (within_nth_inside _ _ _)
