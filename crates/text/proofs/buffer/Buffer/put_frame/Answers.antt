use Rattle.text.specs.Lines.{standard_body, extended_body}
use Rattle.text.proofs.Putting.{next, put_from}
use Rattle.text.proofs.buffer.Buffer.put_frame.Goals as goal
use Rattle.text.proofs.buffer.Buffer.put_frame.Goals.{in-Plain, in-Addressed}

pub returns-clause-put : goal.returns-clause-put
unfolding standard_body extended_body
returns-clause-put c = elim c.match-header.branch [
  | in-Plain w ↦ rw w.in-Plain.is (next w.put_field.ensures (put_from w.self-is c.put_stop.ensures.put))
  | in-Addressed w ↦
      rw w.in-Addressed.is
      (next
      (next (next w.put_hex_field.ensures w.put_hex_field-in-Addressed.ensures) w.put_field-in-Addressed.ensures)
      (put_from w.self-is c.put_stop.ensures.put))
]
