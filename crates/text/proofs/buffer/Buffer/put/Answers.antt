use Rattle.text.proofs.Putting.{copy_more}
use Rattle.text.proofs.buffer.Buffer.put.Goals as goal

pub loop-i-preserved : goal.loop-i-preserved
loop-i-preserved c =
    copy_more c.args.s.now c.args.self.now.bytes.now c.args.self.now.len c.loop-i.i c.loop-i.bytes c.requires
    c.loop-i-test.true c.loop-i.invariant
