use Rattle.frame.specs.Answers.{frame_read}
use Rattle.text.proofs.Putting.{next, put_as, framed}
use Rattle.text.proofs.buffer.Buffer.put_told.Goals as goal

pub returns-in-Ok-clause-put : goal.returns-in-Ok-clause-put
returns-in-Ok-clause-put c =
    rw c.in-Ok.is (next c.put_head.ensures.put
    (put_as (framed c.in-Ok.outline.header c.in-Ok.outline.len _ _ c.part-part.ensures.holds) c.put_frame.ensures.put))

pub returns-in-Err-clause-put : goal.returns-in-Err-clause-put
unfolding frame_read
returns-in-Err-clause-put c = rw c.in-Err.is (next c.put_head.ensures.put c.put_refused.ensures.put)
