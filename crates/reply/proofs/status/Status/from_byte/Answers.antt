use Rattle.std.proofs.Common.{arith, sym, ◌∙◌, ◌/◌, ◌%◌}
use borrow.Author.Tests.{eq-eqb, ne_eqb, lt-ltb}
use Rattle.reply.specs.Status.{status_in}
use Rattle.reply.proofs.status.Status.from_byte.Goals as goal

pub returns-then-b-ne0 : goal.returns-then-b-ne0
unfolding status_in
returns-then-b-ne0 c = simp (lt-ltb c.args.b 256 (omega arith), ne_eqb _ _ c.if-b-ne0.true)

pub returns : goal.returns
unfolding status_in
returns c =
    let b = c.args.b in
    c.of.ensures ∙ sym (simp (lt-ltb b 256 (omega arith), eq-eqb (b / 64 % 2) 0 (omega arith)))
