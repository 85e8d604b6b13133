use Rattle.std.proofs.Common.{arith}
use Rattle.text.specs.Lines.{totals}
use Rattle.text.proofs.Putting.{written}
use Rattle.text.proofs.write_totals.Goals as goal

pub returns-clause-result_value : goal.returns-clause-result_value
returns-clause-result_value c =
    let p = c.put_totals.ensures in
    let w = written (totals c.args.frames c.args.refusals c.args.strays) c.args.out.now p.put p.value (omega (arith, p.upper_bound, c.if-out-lt-TOTALS_ROOM.false)) in
    w.0

pub returns-clause-out_after : goal.returns-clause-out_after
returns-clause-out_after c =
    let p = c.put_totals.ensures in
    let w = written (totals c.args.frames c.args.refusals c.args.strays) c.args.out.now p.put p.value (omega (arith, p.upper_bound, c.if-out-lt-TOTALS_ROOM.false)) in
    w.1
