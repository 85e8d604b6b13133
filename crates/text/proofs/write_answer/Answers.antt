use Rattle.std.proofs.Common.{arith}
use Rattle.text.proofs.Putting.{written, written_nothing}
use Rattle.text.proofs.write_answer.Goals as goal

pub returns-in_default-clause-result_value : goal.returns-in_default-clause-result_value
returns-in_default-clause-result_value c = let w = written_nothing c.args.out.now in rw c.in_default.is w.0

pub returns-in_default-clause-out_after : goal.returns-in_default-clause-out_after
returns-in_default-clause-out_after c = let w = written_nothing c.args.out.now in rw c.in_default.is w.1

pub returns-clause-result_value : goal.returns-clause-result_value
returns-clause-result_value c =
    let p = c.put_line.ensures in
    let w = written _ c.args.out.now p.put p.value (omega (arith, p.upper_bound, c.if-out-lt-LINE_ROOM.false)) in
    rw c.in-Some.is w.0

pub returns-clause-out_after : goal.returns-clause-out_after
returns-clause-out_after c =
    let p = c.put_line.ensures in
    let w = written _ c.args.out.now p.put p.value (omega (arith, p.upper_bound, c.if-out-lt-LINE_ROOM.false)) in
    rw c.in-Some.is w.1
