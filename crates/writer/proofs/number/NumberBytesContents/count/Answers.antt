use Prim.Native.Nat.{◌+◌, ◌-◌, ◌/◌, ◌%◌}
use native.Mathlib.Omega.{arith}
use lib.Bits.{bit_xor}
use Rattle.numbers.proofs.Numbers.{length-bytes_of}
use Rattle.writer.proofs.NumberLaws.{Counting, counts_more, counts_few, counts_all}
use Rattle.writer.proofs.number.NumberBytesContents.count.Goals as goal
use Rattle.writer.proofs.number.NumberBytesContents.count.Goals.{After-mark-escapes}

-- a turn of the loop
turned : (c : After-mark-escapes) → Counting c.args.self.width c.args.self.number (c.args.self.width - (c.loop.counter + 1))
    (c.loop.rest / 256) (c.loop.escapes + c.mark-escapes.result) (bit_xor c.loop.sum (c.loop.rest % 256))
turned c =
    counts_more c.args.self.width _ _ _ _ _ c.loop.invariant _ _ (omega (arith, c.loop-test.true)) c.mark-escapes.ensures

pub overflow_add-escapes : goal.overflow_add-escapes
overflow_add-escapes c = omega (arith, counts_few c.args.self.width _ _ _ _ _ (turned c), c.requires, length-bytes_of c.args.self.width c.args.self.number)

pub loop-preserved : goal.loop-preserved
loop-preserved c = turned c

pub returns : goal.returns
returns c = counts_all c.args.self.width _ _ _ _ _ c.loop.invariant (omega (arith, c.loop-test.false))
