use Rattle.text.proofs.Putting.{put_hundreds}
use Rattle.text.proofs.buffer.Buffer.put_short.Goals as goal

pub returns : goal.returns
returns c = put_hundreds c.if-v-lt100.false c.put_small-2.ensures c.put_last_two.ensures
