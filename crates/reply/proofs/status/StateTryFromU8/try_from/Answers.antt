use Rattle.std.proofs.Common.{refl, arith}
use Rattle.reply.proofs.StatusLaws.{no_name}
use Rattle.reply.proofs.status.StateTryFromU8.try_from.Goals as goal

pub returns-in_default : goal.returns-in_default
returns-in_default c = (refl, no_name c.args.number (λ n. omega arith))
