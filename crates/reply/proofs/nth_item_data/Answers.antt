use Rattle.command.proofs.PartLaws.{is_data}
use Rattle.reply.proofs.ReplyLaws.{item_within}
use Rattle.reply.proofs.nth_item_data.Goals as goal

pub returns : goal.returns
returns c = is_data c.found_part.ensures c.nth_item.ensures (item_within _ _)
