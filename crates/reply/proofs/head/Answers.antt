use Rattle.std.proofs.Common.{arith}
use Rattle.reply.proofs.ReplyLaws.{head_short, head_is}
use Rattle.reply.proofs.head.Goals as goal

pub returns-in-empty : goal.returns-in-empty
returns-in-empty c = head_short _ (omega arith)

pub returns-in-len1-up : goal.returns-in-len1-up
returns-in-len1-up c = head_is c.args.contents.now (λ e. omega arith) c.from_byte.ensures
