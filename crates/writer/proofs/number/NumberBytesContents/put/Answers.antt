use Prim.Native.Nat.{◌+◌, ◌-◌}
use native.Mathlib.Omega.{arith}
use Rattle.writer.proofs.NumberLaws.{puts_room, puts_more, puts_all}
use Rattle.writer.proofs.number.NumberBytesContents.put.Goals as goal

pub put_byte-at-requires : goal.put_byte-at-requires
put_byte-at-requires c =
    puts_room c.args.self.width _ _ _ c.requires.in_bounds _ _ _ _ c.loop.invariant
    (c.args.self.width - (c.loop.counter + 1)) (omega (arith, c.loop-test.true))

pub loop-preserved : goal.loop-preserved
loop-preserved c =
    puts_more c.args.self.width _ _ _ c.requires.in_bounds _ _ _ _ c.loop.invariant
    _ _ _ (omega (arith, c.loop-test.true)) c.put_byte-at.ensures.value c.put_byte-at.ensures.out_after

pub returns : goal.returns
returns c =
    let t =
    puts_all c.args.self.width _ _ _ c.requires.in_bounds _ _ _ _ c.loop.invariant (omega (arith, c.loop-test.false)) in
    record { value = t.0; out_after = t.1 }
