use Rattle.std.proofs.Common.{◌∙◌, sym, arith}
use Rattle.reply.specs.Status.{NamedStatus}
use Rattle.reply.proofs.StatusLaws.{made_of_names}
use Rattle.reply.proofs.status.Status.to_byte.Goals as goal

pub returns-then-self : goal.returns-then-self
returns-then-self c =
    let s = c.args.self in
    let n : NamedStatus = record { toggle = s.toggle; previous = s.previous; state = s.state } in
    simp c.if-self.true (omega (arith, c.previous.ensures, c.state.ensures)) ∙ sym (made_of_names n)

pub returns-else-self : goal.returns-else-self
returns-else-self c =
    let s = c.args.self in
    let n : NamedStatus = record { toggle = s.toggle; previous = s.previous; state = s.state } in
    simp c.if-self.false (omega (arith, c.previous.ensures, c.state.ensures)) ∙ sym (made_of_names n)
