use Rattle.text.specs.Lines.{totals}
use Rattle.text.proofs.Putting.{next}
use Rattle.text.proofs.buffer.Buffer.put_counts.Goals as goal

pub returns-clause-put : goal.returns-clause-put
unfolding totals
returns-clause-put c =
    next (next (next c.put_field.ensures c.put_field-2.ensures) c.put_field-3.ensures) c.put.ensures
