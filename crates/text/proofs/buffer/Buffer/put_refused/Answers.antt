use Rattle.std.proofs.Common.{ap, ◌∙◌}
use Rattle.text.specs.Lines.{field, refused_body}
use Rattle.text.proofs.Putting.{next, put_as}
use Rattle.text.proofs.buffer.Buffer.put_refused.Goals as goal

pub returns-clause-put : goal.returns-clause-put
unfolding refused_body
returns-clause-put c =
    next (put_as (ap (field _) (c.from.ensures ∙ c.number.ensures)) c.put_field.ensures) c.put.ensures
