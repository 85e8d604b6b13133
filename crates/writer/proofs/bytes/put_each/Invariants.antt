use Rattle.writer.proofs.StuffingLaws.{Stuffed}
use Rattle.writer.proofs.bytes.put_each.Given as goal

abbrev pub invariant-loop-b : goal.invariant-loop-b
invariant-loop-b l = Stuffed l.front l.initial.out l.fn.from l.b-index l.at l.out
