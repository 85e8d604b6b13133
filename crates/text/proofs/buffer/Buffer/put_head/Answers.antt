use Rattle.std.proofs.Common.{ap}
use Rattle.text.specs.Lines.{field, head}
use Rattle.text.proofs.Putting.{next, put_as}
use Rattle.text.proofs.buffer.Buffer.put_head.Goals as goal

pub returns-clause-put : goal.returns-clause-put
unfolding head
returns-clause-put c = next c.put_field.ensures (put_as (ap (field _) c.from.ensures) c.put_field-2.ensures)
