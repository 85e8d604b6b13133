use Prim.Native.Nat.{◌-◌}
use Rattle.writer.proofs.NumberLaws.{Puts}
use Rattle.writer.proofs.number.NumberBytesContents.put.Given as goal

abbrev pub invariant-loop : goal.invariant-loop
invariant-loop l =
    Puts l.fn.self.width l.fn.self.number l.initial.out l.from (l.fn.self.width - l.counter) l.rest l.at l.out
