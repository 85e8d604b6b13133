use Prim.Native.Nat.{◌-◌}
use Rattle.writer.proofs.NumberLaws.{Counting}
use Rattle.writer.proofs.number.NumberBytesContents.count.Given as goal

abbrev pub invariant-loop : goal.invariant-loop
invariant-loop l =
    Counting l.fn.self.width l.fn.self.number (l.fn.self.width - l.counter) l.rest l.escapes l.sum
